-- What was pending on a stream that was closed completes, one after another.
use Rattle.std.proofs.Common.{ap, refl, subst, sym, ◌∙◌}
use Rattle.std.proofs.lemmas.Bool.{true≢false}
use Rattle.std.specs.Prelude.{◌≡◌, Bool, true, false, List, [], ◌∷◌}
use Rattle.io_rules.specs.declared.event.Event.{Event}
use Rattle.io_rules.specs.declared.limits.Limits.{Limits}
use Rattle.io_rules.specs.Legal.{state_of}
use Rattle.io_streams.specs.declared.pending.PendingOp.{PendingOp}
use Rattle.io_streams.specs.Pending.{Entry}
use Rattle.io_scheduler.specs.declared.streaming.Streaming.{Streaming}
use Rattle.io_scheduler.specs.Closing.{IsOneAbortedIf, aborted_ops}
use Rattle.io_scheduler.specs.Come.{HaveCome, MayCome, with_events}

-- so far, where these are left
pub record AreLeft {H : Type 0} (limits : Limits) (all left : List (Entry (PendingOp (Streaming H)))) (first past : List Event) :
    Type 0 where
  pub may : MayCome (aborted_ops left) (state_of limits past) → MayCome (aborted_ops all) (state_of limits first)
  pub is : with_events (aborted_ops all) first ≡ with_events (aborted_ops left) past

pub none_left : {H : Type 0} (limits : Limits) (all : List (Entry (PendingOp (Streaming H)))) (past : List Event) →
    AreLeft limits all all past past
none_left limits all past = record { may = λ may. may; is = refl }

pub one_left : {H : Type 0} (limits : Limits) (more : Bool) (all ops left : List (Entry (PendingOp (Streaming H))))
    (first old new : List Event) → IsOneAbortedIf more limits ops left old new → AreLeft limits all ops first old →
    AreLeft limits all left first new
one_left limits true all ops left first old new one are =
    let now = subst (λ l. AreLeft limits all l first old) one.first are in
    subst (AreLeft limits all left first) (sym one.is)
    (record { may = λ may. now.may (one.may, may); is = now.is })
one_left limits false all ops left first old new one are =
    subst (AreLeft limits all left first) (sym one.2)
    (subst (λ l. AreLeft limits all l first old) (one.0 ∙ sym one.1) are)

pub all_left : {H : Type 0} (limits : Limits) (all : List (Entry (PendingOp (Streaming H)))) (first past : List Event) →
    AreLeft limits all [] first past → HaveCome limits (aborted_ops all) first past
all_left limits all first past are = record { may = are.may tt; is = sym are.is }

-- and none is left where none has completed
pub over_left : {H : Type 0} (limits : Limits) (more : Bool) (ops left : List (Entry (PendingOp (Streaming H))))
    (old new : List Event) → IsOneAbortedIf more limits ops left old new → more ≡ false → left ≡ []
over_left limits true ops left old new one is = absurd (true≢false is)
over_left limits false ops left old new one is = one.1

-- a change, and then these
pub come_behind : (limits : Limits) (e : Event) (more : List Event) (old mid new : List Event) →
    HaveCome limits (e ∷ []) old mid → HaveCome limits more mid new → HaveCome limits (e ∷ more) old new
come_behind limits e more old mid new one rest = record {
  may = (one.may.0, subst (λ past. MayCome more (state_of limits past)) one.is rest.may);
  is = rest.is ∙ ap (with_events more) one.is;
}
