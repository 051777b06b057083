use Rattle.proactor_core.proofs.UntoldPerformLemmas.{untold-performs}
use Rattle.proactor_core.proofs.untold_law.untold_performs.Goals as goal

pub returns : goal.returns
returns c = untold-performs
