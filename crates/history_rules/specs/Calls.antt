-- When an act is initiated, and when that call returns (Asio reference, asio::post, asio::defer,
-- asio::dispatch, io_context::stop).
use Rattle.std.specs.Prelude.{◌≡◌, ℕ, Bool, true, false, not, ◌&&◌, ◌||◌, List, Option, Some, None, IsSomeAnd, slice_get, if◌then◌else◌}
use Rattle.asio_types.specs.Faults.{one_more}
use Rattle.asio_types.specs.declared.code.Class.{Class}
use Rattle.asio_types.specs.declared.code.Code.TheVariants as code
use Rattle.session_script.specs.Script.{ScriptModel, Place, same_class, is_operation, is_stop, opening_of, branch_of, parent_of}
use Rattle.session_script.specs.Lanes.{lane_of, is_inline}
use Rattle.history_rules.specs.declared.phase.ActPhase.{ActPhase}
use Rattle.history_rules.specs.declared.phase.ActPhase.TheVariants as phase
use Rattle.history_rules.specs.declared.phase.ActState.{ActState}
use Rattle.history_rules.specs.declared.phase.Allowance.TheVariants as allowance
use Rattle.history_rules.specs.declared.phase.CallPhase.{CallPhase}
use Rattle.history_rules.specs.declared.phase.CallPhase.TheVariants as call
use Rattle.history_rules.specs.declared.phase.Cause.TheVariants as cause
use Rattle.history_rules.specs.declared.phase.Progress.{Progress}
use Rattle.history_rules.specs.declared.phase.Step.{Step}
use Rattle.history_rules.specs.declared.phase.Step.TheVariants as step
use Rattle.history_rules.specs.Kinds.{is_act, is_control, is_posting}
use Rattle.history_rules.specs.State.{ContextState, each_lane, act_at, call_at, phase_at, with_act, with_call, with_phase, counted}
use Rattle.history_rules.specs.Stopping.{after_stop_on}

-- a body that makes calls: its acts, and how far it has come
pub record Body : Type 0 where
  pub acts : List ℕ
  pub progress : Progress

-- the branch that a running handler executes
abbrev pub running_body : ScriptModel → ℕ → Class → ActPhase → Option Body
running_body script o class (phase.Running running progress) =
    if same_class running class
    then Some (record { acts = branch_of script o class; progress = progress })
    else None
running_body script o class _ = None

-- the body in this place, if it is being executed; that of `open` is, unless the reactor failed
-- before it
abbrev pub body_at : ScriptModel → Bool → ContextState → Place → Option Body
body_at script failed s None =
    if failed then None else Some (record { acts = opening_of script; progress = s.opening })
body_at script failed s (Some place) = running_body script place.0 place.1 (phase_at s place.0)

-- the act is the next one of a body that has no open call
pub record IsNextOf (a : ℕ) (body : Body) : Type 0 where
  pub idle : body.progress.made ≡ body.progress.back
  pub next : slice_get body.acts body.progress.made ≡ Some a

-- A body makes one call after the other; failed says whether the reactor has failed.
abbrev pub MayCall : ScriptModel → Bool → ContextState → ℕ → Type 0
MayCall script failed s a = IsSomeAnd (body_at script failed s (parent_of script a)) (IsNextOf a)

-- one more call was made, or is back
abbrev pub stepped : Step → Progress → Progress
stepped step.Made progress = record progress { made = one_more progress.made }
stepped step.Back progress = record progress { back = one_more progress.back }

abbrev pub progressed : Step → ActPhase → ActPhase
progressed step (phase.Running class progress) = phase.Running class (stepped step progress)
progressed step other = other

-- the body in this place comes further
abbrev pub with_progress : Place → Step → ContextState → ContextState
with_progress None step s = record s { opening = stepped step s.opening }
with_progress (Some place) step s = with_phase s place.0 (progressed step (phase_at s place.0))

-- a posting is ready at once, save where it executes inside its call; anything else but a stop asks
-- the reactor
abbrev pub accepted : ScriptModel → ℕ → ActPhase
accepted script a =
    if is_inline script a then phase.Inside
    else (if is_act is_posting script a then phase.Ready code.Ok 0 cause.Posted
    else (if is_act is_operation script a then phase.Requested
    else (if is_act is_control script a then phase.Asked else phase.Absent)))

abbrev pub after_call : ScriptModel → ContextState → ℕ → ContextState
after_call script s a =
    counted (with_act (with_progress (parent_of script a) step.Made s) a
    (record { call = call.Open s.events; phase = accepted script a }))

-- the call was made, and has neither stopped the context nor returned
abbrev pub is_made : CallPhase → Bool
is_made (call.Open called) = true
is_made _ = false

-- a stop act stops the context during its call, once
pub record MayStop (script : ScriptModel) (s : ContextState) (a : ℕ) : Type 0 where
  pub stops : is_act is_stop script a ≡ true
  pub made : is_made (call_at s a) ≡ true

abbrev pub stopping : CallPhase → CallPhase
stopping (call.Open called) = call.Stopping called
stopping other = other

abbrev pub after_stop : ContextState → ℕ → ContextState
after_stop s a = counted (record (with_call s a (stopping (call_at s a))) { stopped = true })

abbrev pub has_stopped : CallPhase → Bool
has_stopped (call.Stopping called) = true
has_stopped _ = false

abbrev pub has_ended : ActPhase → Bool
has_ended phase.Ended = true
has_ended _ = false

-- a call has done all that it does: a stop has stopped the context, and what executes inside its
-- call has ended
abbrev pub is_call_done : Bool → Bool → ActState → Bool
is_call_done stops inside act =
    if stops then has_stopped act.call
    else (is_made act.call && (not inside || has_ended act.phase))

abbrev pub MayReturn : ScriptModel → ContextState → ℕ → Type 0
MayReturn script s a =
    is_call_done (is_act is_stop script a) (is_inline script a) (act_at s a) ≡ true

abbrev pub returned : ℕ → CallPhase → CallPhase
returned place call.Uncalled = call.Uncalled
returned place (call.Open called) = call.Back called place
returned place (call.Stopping called) = call.Back called place
returned place (call.Back called back) = call.Back called back

-- after a stop in `open` no lane may begin anything; after a handler's each other lane may begin
-- one more
abbrev pub limited : ScriptModel → ℕ → Place → ContextState → ContextState
limited script a None s = record s { allowances = each_lane allowance.Nothing s.allowances }
limited script a (Some place) s =
    record s { allowances = after_stop_on (lane_of script a) s.allowances }

abbrev pub limited_by_stop : ScriptModel → ℕ → ContextState → ContextState
limited_by_stop script a s =
    if is_act is_stop script a then limited script a (parent_of script a) s else s

abbrev pub after_return : ScriptModel → ContextState → ℕ → ContextState
after_return script s a =
    counted (limited_by_stop script a (with_progress (parent_of script a) step.Back
    (with_call s a (returned s.events (call_at s a)))))

abbrev pub is_open : CallPhase → Bool
is_open call.Uncalled = false
is_open (call.Open called) = true
is_open (call.Stopping called) = true
is_open (call.Back called back) = false
