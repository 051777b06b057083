use Rattle.proactor_core.proofs.UntoldRestLemmas.{untold-ends, untold-ticks}
use Rattle.proactor_core.proofs.untold_law.untold_ticks.Goals as goal

pub returns-clause-ticks : goal.returns-clause-ticks
returns-clause-ticks c = untold-ticks

pub returns-clause-ends : goal.returns-clause-ends
returns-clause-ends c = untold-ends
