-- What an act at rest may be by its kind.
use Rattle.std.specs.Prelude.{◌≡◌, ℕ, Bool, true, false}
use Rattle.session_script.specs.Script.{ScriptModel, is_op}
use Rattle.session_script.specs.Lanes.{is_inline}
use Rattle.history_rules.specs.Rounds.{is_unspent}
use Rattle.history_rules.specs.declared.phase.ActPhase.{ActPhase}
use Rattle.history_rules.specs.declared.phase.ActPhase.TheVariants as phase
use Rattle.history_rules.specs.declared.phase.CallPhase.{CallPhase}
use Rattle.history_rules.specs.declared.phase.CallPhase.TheVariants as call
use Rattle.history_rules.specs.State.{ContextState, call_at, phase_at}

abbrev pub was_called : CallPhase → Bool
was_called call.Uncalled = false
was_called _ = true

-- its handler was run or destroyed
abbrev pub is_spent : ActPhase → Bool
is_spent phase.Ended = true
is_spent phase.Dropped = true
is_spent _ = false

-- what an operation is once it was called
abbrev pub is_accepted : ActPhase → Bool
is_accepted phase.Absent = false
is_accepted phase.Asked = false
is_accepted _ = true

-- an operation that was called was accepted; what has no handler, and what executes inside its
-- call, keeps none unspent
pub record AreOfKind (script : ScriptModel) (s : ContextState) : Type 0 where
  pub operations : (n : ℕ) → is_op script n ≡ true → was_called (call_at s n) ≡ true →
      is_accepted (phase_at s n) ≡ true
  pub others : (n : ℕ) → is_op script n ≡ false → is_unspent (phase_at s n) ≡ false
  pub inline : (n : ℕ) → is_inline script n ≡ true → is_unspent (phase_at s n) ≡ false
