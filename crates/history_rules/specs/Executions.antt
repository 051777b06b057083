-- When a handler begins and ends (Asio reference, io_context::run; io_context::strand;
-- asio::dispatch).
use Rattle.std.specs.Prelude.{◌≡◌, ◌⊎◌, ℕ, Bool, true, false, ◌==◌, ◌&&◌, length, if◌then◌else◌}
use Rattle.asio_types.specs.Code.{class_of_code}
use Rattle.asio_types.specs.declared.code.Code.{Code}
use Rattle.asio_types.specs.declared.code.Code.TheVariants as code
use Rattle.session_script.specs.Script.{ScriptModel, branch_of}
use Rattle.session_script.specs.Lanes.{lane_of, is_inline}
use Rattle.history_rules.specs.declared.phase.ActPhase.{ActPhase}
use Rattle.history_rules.specs.declared.phase.ActPhase.TheVariants as phase
use Rattle.history_rules.specs.declared.phase.Cause.{Cause}
use Rattle.history_rules.specs.State.{ContextState, call_at, phase_at, with_phase, counted, no_progress}
use Rattle.history_rules.specs.Calls.{is_made}
use Rattle.history_rules.specs.Order.{IsFirstOfLane}
use Rattle.history_rules.specs.Rounds.{RoundIsOpen, is_running}
use Rattle.history_rules.specs.Stopping.{MayStart, spend}

-- nothing of the lane of this operation runs
abbrev pub LaneIsFree : ScriptModel → ContextState → ℕ → Type 0
LaneIsFree script s o =
    (other : ℕ) → lane_of script other ≡ lane_of script o → is_running (phase_at s other) ≡ false

-- the handler is ready with this code and size
abbrev pub IsReadyWith : ActPhase → Code → ℕ → Type 0
IsReadyWith act code size = (why : Cause) × (act ≡ phase.Ready code size why)

-- a ready handler begins: one at a time on its lane, in order
pub record MayBeginOutside (script : ScriptModel) (s : ContextState) (o : ℕ) (code : Code)
    (size : ℕ) : Type 0 where
  pub round : RoundIsOpen script s
  pub ready : IsReadyWith (phase_at s o) code size
  pub alone : LaneIsFree script s o
  pub first : IsFirstOfLane script s o
  pub allowed : MayStart s (lane_of script o)

-- a dispatched handler begins inside its call, which nothing else of its caller can be in
pub record MayBeginInside (s : ContextState) (o : ℕ) (given : Code) (size : ℕ) : Type 0 where
  pub inside : phase_at s o ≡ phase.Inside
  pub called : is_made (call_at s o) ≡ true
  pub ok : given ≡ code.Ok
  pub empty : size ≡ 0

abbrev pub MayBegin : ScriptModel → ContextState → ℕ → Code → ℕ → Type 0
MayBegin script s o code size = MayBeginOutside script s o code size ⊎ MayBeginInside s o code size

abbrev pub begun : ContextState → ℕ → Code → ContextState
begun s o code = with_phase s o (phase.Running (class_of_code code) no_progress)

-- only what begins outside a call uses the lane's allowance
abbrev pub after_begin : ScriptModel → ContextState → ℕ → Code → ContextState
after_begin script s o code =
    counted
    (if is_inline script o then begun s o code else spend (lane_of script o) (begun s o code))

-- all calls of the branch were made and are back
abbrev pub has_finished : ScriptModel → ℕ → ActPhase → Bool
has_finished script o (phase.Running class progress) =
    (progress.made == length (branch_of script o class))
    && (progress.back == length (branch_of script o class))
has_finished script o _ = false

-- a handler returns once its calls are back
abbrev pub MayEnd : ScriptModel → ContextState → ℕ → Type 0
MayEnd script s o = has_finished script o (phase_at s o) ≡ true

abbrev pub after_end : ContextState → ℕ → ContextState
after_end s o = counted (with_phase s o phase.Ended)
