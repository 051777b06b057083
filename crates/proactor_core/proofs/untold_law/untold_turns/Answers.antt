use Rattle.proactor_core.proofs.UntoldTurnLemmas.{last-turns-drain, untold-turns}
use Rattle.proactor_core.proofs.untold_law.untold_turns.Goals as goal

pub returns-clause-turns : goal.returns-clause-turns
returns-clause-turns c = untold-turns

pub returns-clause-drains : goal.returns-clause-drains
returns-clause-drains c = last-turns-drain
