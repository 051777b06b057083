-- An operation's execution by itself: a context in which nothing has become of any act, but that
-- this operation's handler is ready (Asio reference, io_context::run).
use Rattle.std.specs.Prelude.{ℕ, Bool, true, length, replicate}
use Rattle.std.specs.List.{slice_set}
use Rattle.asio_types.specs.declared.code.Code.{Code}
use Rattle.session_script.specs.Script.{ScriptModel, opening_of}
use Rattle.history_rules.specs.State.{ContextState, State, first_context, first_reactor, fresh}
use Rattle.history_rules.specs.declared.phase.ActPhase.TheVariants as phase
use Rattle.history_rules.specs.declared.phase.ActState.{ActState}
use Rattle.history_rules.specs.declared.phase.CallPhase.TheVariants as call
use Rattle.history_rules.specs.declared.phase.Cause.TheVariants as cause

-- the operation was posted, and is ready with this code and size
abbrev pub solo_act : Code → ℕ → ActState
solo_act code size =
    record { call = call.Back 0 0; phase = phase.Ready code size cause.Posted }

-- the calls of `open` are back, the first round is open, and every lane is free
abbrev pub solo_context : ScriptModel → ℕ → Code → ℕ → ContextState
solo_context script op code size = record (first_context script) {
  acts = slice_set (replicate (length script.acts) fresh) op (solo_act code size);
  opening = record { made = length (opening_of script); back = length (opening_of script) };
  restarted = true;
}

abbrev pub solo_state : ScriptModel → Bool → ℕ → Code → ℕ → State
solo_state script told op code size = record {
  context = solo_context script op code size;
  reactor = first_reactor script told;
}
