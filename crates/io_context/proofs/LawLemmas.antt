-- The laws of the rules, of one history.
use Rattle.std.proofs.Common.{arith, subst, sym, ◌∙◌}
use Rattle.std.proofs.lemmas.Bool.{true≢false}
use Rattle.std.specs.Prelude.{◌≡◌, ◌≤◌, ◌||◌, ℕ, suc, Bool, true, false, List, [], ◌∷◌, ◌++◌, if◌then◌else◌}
use Rattle.asio_types.specs.declared.code.Code.{Code}
use Rattle.asio_types.specs.declared.code.Code.TheVariants as code
use Rattle.io_rules.specs.declared.event.Event.{Event}
use Rattle.io_rules.specs.declared.event.Event.TheVariants as event
use Rattle.io_rules.specs.declared.limits.Limits.{Limits}
use Rattle.io_rules.specs.declared.op.Phase.{Phase}
use Rattle.io_rules.specs.declared.op.Phase.TheVariants as phase
use Rattle.io_rules.specs.Alone.{AloneOnStrand}
use Rattle.io_rules.specs.Completing.{MayCompleteAs, MayCompleteIn}
use Rattle.io_rules.specs.Ops.{is_at, is_pending}
use Rattle.io_rules.specs.State.{ContextState}
use Rattle.io_rules.proofs.TotalLemmas.{found}
use Rattle.io_timers.specs.DueFirst.{CompleteByExpiry, IsDueFirst}
use Rattle.io_rules.specs.History.{calls, is_over, times}
use Rattle.io_rules.specs.InOrder.{BeginInOrder}
use Rattle.io_rules.specs.Legal.{IsLegal, IsWhole, MayHappen, state_of}
use Rattle.io_rules.specs.Once.{AllAreOver, BegunBeforeEnded, BegunOrDropped, CalledOnce}
use Rattle.io_rules.specs.Stopped.{NothingBeginsStopped}
use Rattle.io_history.specs.Rule.{EndsWith}
use Rattle.io_scheduler.specs.Told.{is_call_in}
use Rattle.io_context.specs.Laws.{KeepsLaws}

-- an older history is legal too
legal_end : (limits : Limits) (later before : List Event) → IsLegal limits (later ++ before) → IsLegal limits before
legal_end limits [] before legal = legal
legal_end limits (e ∷ later) before legal = legal_end limits later before legal.1

legal_at : (limits : Limits) (past later before : List Event) → past ≡ later ++ before → IsLegal limits past →
    IsLegal limits before
legal_at limits past later before is legal =
    legal_end limits later before (subst (IsLegal limits) is legal)

expired_in : (s : ContextState) (op size : ℕ) (given : Code) (p : Phase) → CompleteByExpiry → is_pending p ≡ true →
    MayCompleteIn s op given size p → (given ≡ code.Ok) × IsDueFirst s.timers s.now s.waits op
expired_in s op size given (phase.Pending moved cancelled) by_expiry pending may =
    (may.ok, by_expiry s op given size may)
expired_in s op size given (phase.Settled known moved) by_expiry pending may =
    absurd (true≢false (sym pending))
expired_in s op size given (phase.Ready known moved) by_expiry pending may = absurd may
expired_in s op size given (phase.Running own grant spares) by_expiry pending may = absurd may

expired : (s : ContextState) (op size : ℕ) (given : Code) → CompleteByExpiry → is_at is_pending s.ops op ≡ true →
    MayHappen s (event.Done op given size) → (given ≡ code.Ok) × IsDueFirst s.timers s.now s.waits op
expired s op size given by_expiry pending may =
    let it = found is_pending s.ops op pending in
    expired_in s op size given it.op.phase by_expiry it.passed
    (subst (MayCompleteAs s op given size) it.is may.completes)

pub keeps_laws : CalledOnce → AllAreOver → BegunOrDropped → BegunBeforeEnded → AloneOnStrand → BeginInOrder →
    NothingBeginsStopped → CompleteByExpiry → (limits : Limits) (past : List Event) → IsLegal limits past →
    IsWhole (state_of limits past) → KeepsLaws limits past
keeps_laws called all dropped begun alone order stopped by_expiry limits past legal whole = record {
  initiated_once = called limits past legal;
  over_once = all limits past legal whole;
  begun_or_dropped = dropped limits past legal;
  begun_before = begun limits past legal;
  alone = λ since before op other spares strand is on other_on.
      alone limits before op other spares strand
      (legal_at limits past since (event.Begun op spares ∷ before) is legal) on other_on;
  in_order = order limits past legal;
  stopped = λ later since before stop is stops never.
      stopped limits since stop before (legal_at limits past later (since ++ (stop ∷ before)) is legal) stops never;
  waits = λ since before op size given is pending.
      expired (state_of limits before) op size given by_expiry pending
      (legal_at limits past since (event.Done op given size ∷ before) is legal).0;
}

one_more : (b : Bool) (n : ℕ) → 1 ≤ n → 1 ≤ (if b then suc n else n)
one_more true n least = omega (arith, least)
one_more false n least = least

first_or : (b rest : Bool) (n : ℕ) → (rest ≡ true → 1 ≤ n) → (b || rest) ≡ true → 1 ≤ (if b then suc n else n)
first_or true rest n later is = omega arith
first_or false rest n later is = later is

-- what is among these events came once at least
told_first : (op : ℕ) (told : List Event) → is_call_in op told ≡ true → 1 ≤ times (calls op) told
told_first op [] told_it = absurd (cc)
told_first op (e ∷ before) told_it =
    first_or (calls op e) (is_call_in op before) (times (calls op) before) (told_first op before) told_it

told_once : (op : ℕ) (later told : List Event) → is_call_in op told ≡ true → 1 ≤ times (calls op) (later ++ told)
told_once op [] told told_it = told_first op told told_it
told_once op (e ∷ later) told told_it =
    one_more (calls op e) (times (calls op) (later ++ told)) (told_once op later told told_it)

pub is_over_once : CalledOnce → AllAreOver → (limits : Limits) (past told : List Event) (op : ℕ) →
    IsLegal limits past → IsWhole (state_of limits past) → EndsWith past told → is_call_in op told ≡ true →
    times (is_over op) past ≡ 1
is_over_once called all limits past told op legal whole ends told_it =
    let least : 1 ≤ times (calls op) past =
    subst (λ p. 1 ≤ times (calls op) p) (sym ends.1) (told_once op ends.0 told told_it) in
    let most : times (calls op) past ≤ 1 = called limits past legal op in
    let one : times (calls op) past ≡ 1 = omega (arith, least, most) in
    all limits past legal whole op ∙ one
