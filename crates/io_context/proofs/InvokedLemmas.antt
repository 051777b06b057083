-- A handler that has begun is that of its operation.
use Rattle.std.proofs.Common.{ap, refl, ◌∙◌}
use Rattle.std.specs.Prelude.{◌≡◌, ℕ, ◌==◌, Bool, true, false, List, [], ◌∷◌, Option, Some, if◌then◌else◌}
use Rattle.io_rules.specs.declared.op.Op.{Op}
use Rattle.io_rules.specs.declared.op.Phase.{Phase}
use Rattle.io_rules.specs.declared.op.Phase.TheVariants as phase
use Rattle.io_rules.specs.declared.request.Marks.{Marks}
use Rattle.io_rules.specs.Ops.{op_at, with_phase}
use Rattle.io_rules.specs.Room.{grant_of}
use Rattle.io_rules.specs.State.{ContextState}
use Rattle.io_handlers.specs.declared.completion.Completion.{Completion}
use Rattle.io_history.specs.Steps.{holding}
use Rattle.io_scheduler.specs.Begun.{IsBegun, is_strand}
use Rattle.io_scheduler.specs.Ended.{mark_of}
use Rattle.io_scheduler.specs.Running.{Execution}
use Rattle.io_scheduler.specs.Told.{IsOnLane}
use Rattle.io_context.specs.Invoked.{IsHandlerOf}

at_begun : (n : ℕ) (p : Phase) (ops : List Op) (it : Op) → op_at ops n ≡ Some it →
    op_at (with_phase n p ops) n ≡ Some (record it { phase = p })
at_begun n p [] it is = absurd (cc)
at_begun n p (x ∷ ops) it is = by_number (x.number == n) refl is (at_begun n p ops it)
  where
    by_number : (b : Bool) → (x.number == n) ≡ b → (if b then Some x else op_at ops n) ≡ Some it →
        (op_at ops n ≡ Some it → op_at (with_phase n p ops) n ≡ Some (record it { phase = p })) →
        op_at (if b then record x { phase = p } ∷ ops else x ∷ with_phase n p ops) n ≡ Some (record it { phase = p })
    by_number true same_number found later =
        let it_is : x ≡ it = cc in
        let changed : Op → Op = λ y. record y { phase = p } in
        ap (λ c. if c then Some (changed x) else op_at ops n) same_number ∙ ap (λ y. Some (changed y)) it_is
    by_number false other found later =
        ap (λ c. if c then Some x else op_at (with_phase n p ops) n) other ∙ later found

pub is_handler : {H S : Type 0} → (marks : H → Marks) (old new : ContextState) (runs : Execution) (handler : H)
    (done : Completion) (state : Option S) → IsBegun marks old new runs handler done state → IsOnLane runs →
    IsHandlerOf marks runs handler state
is_handler marks old new runs handler done state begun on =
    let was = begun.was in
    let p : Phase = phase.Running true (grant_of old) runs.spares in
    let new_op : Op = record was.op { phase = p } in
    let at : op_at new.ops runs.op ≡ Some new_op =
    ap (λ s. op_at s.ops runs.op) begun.step.is ∙ at_begun runs.op p old.ops was.op was.is in
    let held : runs.held ≡ Some (record { op = runs.op; is = new_op }) =
    begun.held_as ∙ ap (holding runs.op) at in
    record {
      returns = ap mark_of held ∙ ap (λ (m : Marks). Some m.run) was.given;
      with_state = was.with_state ∙ ap is_strand (on (record { op = runs.op; is = new_op }) held);
    }
