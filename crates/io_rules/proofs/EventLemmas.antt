-- What events leave of the operations: phases change, one is added, and one is over.
use Rattle.std.proofs.Common.{sym}
use Rattle.std.proofs.lemmas.Bool.{true≢false}
use Rattle.std.specs.Prelude.{◌≡◌, ℕ, Bool, true, false, List, [], ◌∷◌, Option, Some, None}
use Rattle.io_rules.specs.declared.control.Control.{Control}
use Rattle.io_rules.specs.declared.control.Control.TheVariants as control
use Rattle.io_rules.specs.declared.event.Event.{Event}
use Rattle.io_rules.specs.declared.event.Event.TheVariants as event
use Rattle.io_rules.specs.declared.op.Phase.TheVariants as phase
use Rattle.io_rules.specs.declared.operation.Side.TheVariants as side
use Rattle.io_rules.specs.Cancelling.{cancelled_phase, is_tried, ops_cancelled}
use Rattle.io_rules.specs.Changes.{ops_changed, reached, spare_used}
use Rattle.io_rules.specs.Completing.{completed, kind_of}
use Rattle.io_rules.specs.Executions.{granted_more}
use Rattle.io_rules.specs.Legal.{after}
use Rattle.io_rules.specs.Operations.{Target, behind_connect, target_of}
use Rattle.io_rules.specs.Ops.{op_at, phase_changed, phase_changed_of, without}
use Rattle.io_rules.specs.Serving.{first_of, ops_served, served, served_op}
use Rattle.io_rules.specs.State.{ContextState, Op, Phase, stream_at}
use Rattle.io_rules.specs.Tries.{phase_back, phase_found}

-- a fact of operations that their phases don't decide
pub record StaysSo (Q : List Op → Type 0) : Type 0 where
  pub changed : (n : ℕ) (g : Op → Phase) (ops : List Op) → Q ops → Q (phase_changed n g ops)
  pub without : (n : ℕ) (ops : List Op) → Q ops → Q (without n ops)

pub stays-changed_of : (Q : List Op → Type 0) → StaysSo Q → (n : Option ℕ) (g : Op → Phase) (ops : List Op) → Q ops →
    Q (phase_changed_of n g ops)
stays-changed_of Q stays None g ops all = all
stays-changed_of Q stays (Some n) g ops all = stays.changed n g ops all

stays-cancelled : (Q : List Op → Type 0) → StaysSo Q → (s : ContextState) (numbers : List ℕ) (ops : List Op) → Q ops →
    Q (ops_cancelled s numbers ops)
stays-cancelled Q stays s [] ops all = all
stays-cancelled Q stays s (n ∷ numbers) ops all =
    stays-cancelled Q stays s numbers (phase_changed n (λ op. cancelled_phase (is_tried s op) op.phase) ops)
    (stays.changed n (λ op. cancelled_phase (is_tried s op) op.phase) ops all)

pub stays-served : (Q : List Op → Type 0) → StaysSo Q → (s : ContextState) (target : Option Target) → Q s.ops →
    Q (ops_served s target)
stays-served Q stays s None all = all
stays-served Q stays s (Some target) all =
    let stream = stream_at s.streams target.stream in
    stays-changed_of Q stays (first_of target.side stream) (λ op. (served_op stream target.side op).phase) s.ops all

stays-ops_changed : (Q : List Op → Type 0) → StaysSo Q → (by : Option ℕ) (change : Control) (ops : List Op) → Q ops →
    Q (ops_changed by change ops)
stays-ops_changed Q stays by (control.Make kind name) ops all =
    stays-changed_of Q stays by (λ op. spare_used kind op.phase) ops all
stays-ops_changed Q stays by _ ops all = all

abbrev pub is_no_call : Event → Bool
is_no_call (event.Called op by request gone) = false
is_no_call _ = true

pub stays-after : (Q : List Op → Type 0) → StaysSo Q → (e : Event) (s : ContextState) → is_no_call e ≡ true → Q s.ops →
    Q (after e s).ops
stays-after Q stays (event.Called op by request gone) s none all = absurd (true≢false (sym none))
stays-after Q stays (event.Changed by change) s none all =
    stays-ops_changed Q stays by change (ops_cancelled s (reached s change) s.ops)
    (stays-cancelled Q stays s (reached s change) s.ops all)
stays-after Q stays (event.Granted op spares) s none all =
    stays.changed op (λ it. granted_more _ spares it.phase) s.ops all
stays-after Q stays (event.Back name side given) s none all =
    let stream = stream_at s.streams name in
    stays-changed_of Q stays (first_of side stream) (λ op. phase_back stream given op.kind op.phase) s.ops all
stays-after Q stays (event.Searched name end) s none all =
    let stream = stream_at s.streams name in
    stays-changed_of Q stays (first_of side.Read stream) (λ op. phase_found stream end op.kind op.phase) s.ops all
stays-after Q stays (event.Done op code size) s none all =
    let kind = kind_of (op_at s.ops op) in
    let first = completed op code size s in
    let second = served (target_of kind) first in
    let third = served (behind_connect side.Read kind) second in
    stays-served Q stays third (behind_connect side.Write kind)
    (stays-served Q stays second (behind_connect side.Read kind)
    (stays-served Q stays first (target_of kind) (stays.changed op (λ it. phase.Ready code size) s.ops all)))
stays-after Q stays (event.Begun op spares) s none all = stays.changed op (λ it. phase.Running true _ spares) s.ops all
stays-after Q stays (event.Ended op mark) s none all = stays.without op s.ops all
stays-after Q stays (event.Dropped op mark) s none all = stays.without op s.ops all
stays-after Q stays _ s none all = all
