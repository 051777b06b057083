-- What executes stays as it is, but for what its own handler does.
use Rattle.std.proofs.Common.{ap, refl, subst, sym, ◌∙◌}
use Rattle.std.proofs.lemmas.Bool.{true≢false}
use Rattle.std.specs.Prelude.{◌≡◌, ℕ, not, Bool, true, false, List, [], ◌∷◌, ◌++◌, Option, Some, None, if◌then◌else◌}
use Rattle.std.specs.List.{list_all}
use Rattle.asio_types.specs.declared.code.Code.{Code}
use Rattle.io_rules.specs.declared.control.Control.{Control}
use Rattle.io_rules.specs.declared.control.Control.TheVariants as control
use Rattle.io_rules.specs.declared.event.Event.{Event}
use Rattle.io_rules.specs.declared.event.Event.TheVariants as event
use Rattle.io_rules.specs.declared.gave.Gave.{Gave}
use Rattle.io_rules.specs.declared.limits.Limits.{Limits}
use Rattle.io_rules.specs.declared.op.Op.{Op}
use Rattle.io_rules.specs.declared.op.Phase.{Phase}
use Rattle.io_rules.specs.declared.op.Phase.TheVariants as phase
use Rattle.io_rules.specs.declared.operation.Operation.{Operation}
use Rattle.io_rules.specs.declared.operation.Side.{Side}
use Rattle.io_rules.specs.declared.operation.Side.TheVariants as side
use Rattle.io_rules.specs.declared.request.Gone.{Gone}
use Rattle.io_rules.specs.declared.request.Request.{Request}
use Rattle.io_rules.specs.Calls.{accepted, caller_lane, new_op, target_if}
use Rattle.io_rules.specs.Cancelling.{cancelled, cancelled_phase, is_out_for, is_tried, ops_cancelled}
use Rattle.io_rules.specs.Changes.{ops_changed, reached, spare_used}
use Rattle.io_rules.specs.Completing.{MayBeDone, MayCompleteAs, MayCompleteIn, completed, kind_of}
use Rattle.io_rules.specs.Executions.{MayBegin}
use Rattle.io_rules.specs.Legal.{IsLegal, MayHappen, after, state_of}
use Rattle.io_rules.specs.Operations.{Target, behind_connect, target_of}
use Rattle.io_rules.specs.Ops.{is_at, is_ready, is_running, op_at, passes}
use Rattle.io_rules.specs.Room.{place_given, place_given_by}
use Rattle.io_rules.specs.Serving.{first_of, served, served_op, served_phase}
use Rattle.io_rules.specs.State.{ContextState, StreamState, stream_at}
use Rattle.io_rules.specs.Strands.{entry_of}
use Rattle.io_rules.specs.Tries.{phase_back, phase_found}
use Rattle.io_history.specs.Steps.{actor}
use Rattle.io_history.proofs.AtLemmas.{at-changed, at-changed_of, at-push, at-without, none-runs}

abbrev IsRunning : Op → Type 0
IsRunning op = is_running op.phase ≡ true

-- what isn't the call of a handler passes over those that execute
pub back_passes : (stream : StreamState) (given : Gave) (kind : Operation) (p : Phase) → is_running p ≡ true →
    phase_back stream given kind p ≡ p
back_passes stream given kind (phase.Running own grant spares) is = refl
back_passes stream given kind (phase.Pending moved cancelled) is = absurd (true≢false (sym is))
back_passes stream given kind (phase.Settled code size) is = refl
back_passes stream given kind (phase.Ready code size) is = refl

pub found_passes : (stream : StreamState) (end : Option ℕ) (kind : Operation) (p : Phase) → is_running p ≡ true →
    phase_found stream end kind p ≡ p
found_passes stream end kind (phase.Running own grant spares) is = refl
found_passes stream end kind (phase.Pending moved cancelled) is = absurd (true≢false (sym is))
found_passes stream end kind (phase.Settled code size) is = refl
found_passes stream end kind (phase.Ready code size) is = refl

cancel_passes : (tried : Bool) (p : Phase) → is_running p ≡ true → cancelled_phase tried p ≡ p
cancel_passes tried (phase.Running own grant spares) is = refl
cancel_passes tried (phase.Pending moved cancelled) is = absurd (true≢false (sym is))
cancel_passes tried (phase.Settled code size) is = refl
cancel_passes tried (phase.Ready code size) is = refl

serve_phase_passes : (stream : StreamState) (kind : Operation) (p : Phase) → is_running p ≡ true →
    (served_phase stream kind p).phase ≡ p
serve_phase_passes stream kind (phase.Running own grant spares) is = refl
serve_phase_passes stream kind (phase.Pending moved cancelled) is = absurd (true≢false (sym is))
serve_phase_passes stream kind (phase.Settled code size) is = refl
serve_phase_passes stream kind (phase.Ready code size) is = refl

serve_out : (b : Bool) (stream : StreamState) (kind : Operation) (p : Phase) → is_running p ≡ true →
    (if b then (record { phase = p; held = stream.held }) else served_phase stream kind p).phase ≡ p
serve_out true stream kind p is = refl
serve_out false stream kind p is = serve_phase_passes stream kind p is

serve_passes : (stream : StreamState) (side : Side) (op : Op) → IsRunning op →
    (served_op stream side op).phase ≡ op.phase
serve_passes stream side op is = serve_out (is_out_for side stream.out) stream op.kind op.phase is

pub served_leaves : (s : ContextState) (target : Option Target) (n : ℕ) (is : Op) → IsRunning is →
    op_at s.ops n ≡ Some is → op_at (served target s).ops n ≡ Some is
served_leaves s None n is runs found = found
served_leaves s (Some target) n is runs found =
    at-changed_of (first_of target.side (stream_at s.streams target.stream)) n
    (λ op. (served_op (stream_at s.streams target.stream) target.side op).phase) s.ops is
    (serve_passes (stream_at s.streams target.stream) target.side is runs) found

pub cancelled_leaves : (s : ContextState) (numbers : List ℕ) (ops : List Op) (n : ℕ) (is : Op) → IsRunning is →
    op_at ops n ≡ Some is → op_at (ops_cancelled s numbers ops) n ≡ Some is
cancelled_leaves s [] ops n is runs found = found
cancelled_leaves s (m ∷ numbers) ops n is runs found =
    cancelled_leaves s numbers _ n is runs
    (at-changed m n (λ op. cancelled_phase (is_tried s op) op.phase) ops is
    (λ here. cancel_passes (is_tried s is) is.phase runs) found)

given_leaves : (by : Option ℕ) (ops : List Op) (n : ℕ) (is : Op) → (by ≡ Some n → ⊥) → op_at ops n ≡ Some is →
    op_at (place_given_by by ops) n ≡ Some is
given_leaves None ops n is other found = found
given_leaves (Some m) ops n is other found =
    at-changed m n (λ op. place_given op.phase) ops is (λ here. absurd (other (ap Some here))) found

changed_leaves : (by : Option ℕ) (change : Control) (ops : List Op) (n : ℕ) (is : Op) → (by ≡ Some n → ⊥) →
    op_at ops n ≡ Some is → op_at (ops_changed by change ops) n ≡ Some is
changed_leaves None (control.Make kind name) ops n is other found = found
changed_leaves (Some m) (control.Make kind name) ops n is other found =
    at-changed m n (λ op. spare_used kind op.phase) ops is (λ here. absurd (other (ap Some here))) found
changed_leaves by (control.Free kind name) ops n is other found = found
changed_leaves by (control.Expires timer at) ops n is other found = found
changed_leaves by (control.Cancel timer) ops n is other found = found
changed_leaves by (control.CancelOne timer) ops n is other found = found
changed_leaves by (control.Emit slot types) ops n is other found = found
changed_leaves by (control.CancelAll stream) ops n is other found = found
changed_leaves by (control.Shutdown stream) ops n is other found = found
changed_leaves by (control.NoDelay stream on) ops n is other found = found
changed_leaves by control.Hold ops n is other found = found
changed_leaves by control.Release ops n is other found = found
changed_leaves by control.Stop ops n is other found = found

-- what is ready, or completes, doesn't execute
ready_idle : (p : Phase) → is_ready p ≡ true → is_running p ≡ true → ⊥
ready_idle (phase.Ready code size) ready runs = true≢false (sym runs)
ready_idle (phase.Pending moved cancelled) ready runs = true≢false (sym runs)
ready_idle (phase.Settled code size) ready runs = true≢false (sym runs)
ready_idle (phase.Running own grant spares) ready runs = true≢false (sym ready)

pub ready_other : (ops : List Op) (m n : ℕ) (is : Op) → is_at is_ready ops m ≡ true → op_at ops n ≡ Some is →
    IsRunning is → m ≡ n → ⊥
ready_other ops m n is ready found runs same =
    let there : passes is_ready (Some is) ≡ true =
    subst (λ (o : Option Op). passes is_ready o ≡ true) found
    (subst (λ k. is_at is_ready ops k ≡ true) same ready) in
    ready_idle is.phase there runs

done_idle : (s : ContextState) (op : ℕ) (given : Code) (size : ℕ) (p : Phase) → MayCompleteIn s op given size p →
    is_running p ≡ true → ⊥
done_idle s op given size (phase.Pending moved cancelled) may runs = true≢false (sym runs)
done_idle s op given size (phase.Settled known moved) may runs = true≢false (sym runs)
done_idle s op given size (phase.Ready known moved) may runs = may
done_idle s op given size (phase.Running own grant spares) may runs = may

done_other : (s : ContextState) (m n : ℕ) (given : Code) (size : ℕ) (is : Op) → MayBeDone s m given size →
    op_at s.ops n ≡ Some is → IsRunning is → m ≡ n → ⊥
done_other s m n given size is may found runs same =
    done_idle s m given size is.phase
    (subst (λ (o : Option Op). MayCompleteAs s m given size o)
    (ap (λ k. op_at s.ops k) same ∙ found) may.completes) runs

-- while the context is being destroyed nothing executes
abbrev pub Rests : ContextState → Type 0
Rests s = s.finishing ≡ true → list_all (λ op. not (is_running op.phase)) s.ops ≡ true

pub stays : (s : ContextState) (e : Event) (n : ℕ) (is : Op) → MayHappen s e → Rests s → (actor e ≡ Some n → ⊥) →
    op_at s.ops n ≡ Some is → IsRunning is → op_at (after e s).ops n ≡ Some is
stays s (event.Called op by request gone) n is may rests other found runs =
    let entry = entry_of (caller_lane s.ops by) request gone in
    served_leaves (accepted entry op by request gone s) (target_if gone (target_of request.kind)) n is runs
    (at-push n (place_given_by by s.ops) (new_op entry op request gone) is (given_leaves by s.ops n is other found))
stays s (event.Changed by change) n is may rests other found runs =
    changed_leaves by change (cancelled (reached s change) s).ops n is other
    (cancelled_leaves s (reached s change) s.ops n is runs found)
stays s (event.Passed now) n is may rests other found runs = found
stays s (event.Granted op spares) n is may rests other found runs =
    at-changed op n _ s.ops is (λ here. absurd (other (ap Some here))) found
stays s (event.Tried stream side reserved) n is may rests other found runs = found
stays s (event.Back stream tried gave) n is may rests other found runs =
    at-changed_of (first_of tried (stream_at s.streams stream)) n
    (λ op. phase_back (stream_at s.streams stream) gave op.kind op.phase) s.ops is
    (back_passes (stream_at s.streams stream) gave is.kind is.phase runs) found
stays s (event.Searched stream end) n is may rests other found runs =
    at-changed_of (first_of side.Read (stream_at s.streams stream)) n
    (λ op. phase_found (stream_at s.streams stream) end op.kind op.phase) s.ops is
    (found_passes (stream_at s.streams stream) end is.kind is.phase runs) found
stays s (event.Done op code size) n is may rests other found runs =
    let kind = kind_of (op_at s.ops op) in
    let done = completed op code size s in
    let own = served (target_of kind) done in
    let reads = served (behind_connect side.Read kind) own in
    let first : op_at done.ops n ≡ Some is =
    at-changed op n (λ it. phase.Ready code size) s.ops is
    (λ here. absurd (done_other s op n code size is may found runs here)) found in
    served_leaves reads (behind_connect side.Write kind) n is runs
    (served_leaves own (behind_connect side.Read kind) n is runs
    (served_leaves done (target_of kind) n is runs first))
stays s (event.Begun op spares) n is may rests other found runs =
    at-changed op n _ s.ops is (λ here. absurd (ready_other s.ops op n is may.ready found runs here)) found
stays s (event.Ended op mark) n is may rests other found runs =
    at-without op n s.ops is (λ here. other (ap Some here)) found
stays s event.Returned n is may rests other found runs = found
stays s event.Restarted n is may rests other found runs = found
stays s event.Finishing n is may rests other found runs = found
stays s (event.Dropped op mark) n is may rests other found runs =
    absurd (none-runs s.ops n is (rests may.finishing) runs found)
