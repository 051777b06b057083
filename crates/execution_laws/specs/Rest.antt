-- What holds of a context while its lock is free.
use Rattle.std.specs.Prelude.{◌≡◌, ◌≤◌, Bool, true, false, All, length}
use Rattle.asio_types.specs.Faults.{most_faults}
use Rattle.session_script.specs.Script.{ScriptModel}
use Rattle.history_rules.specs.declared.phase.ActPhase.{ActPhase}
use Rattle.history_rules.specs.declared.phase.ActPhase.TheVariants as phase
use Rattle.history_rules.specs.Rounds.{NothingRuns, NoCallIsOpen}
use Rattle.history_rules.specs.State.{ContextState}

-- a dispatch that is to execute inside its call
abbrev pub waits_inside : ActPhase → Bool
waits_inside phase.Inside = true
waits_inside _ = false

-- each act has a state, no handler runs or is to run inside a call, and no call is open
pub record IsAtRest (script : ScriptModel) (s : ContextState) : Type 0 where
  pub acts : length s.acts ≡ length script.acts
  pub quiet : NothingRuns s
  pub entered : All (λ act. waits_inside act.phase ≡ false) s.acts
  pub back : NoCallIsOpen s
  -- events are counted within 64 bits
  pub counted : s.events ≤ most_faults
