use Rattle.proactor_core.proofs.UntoldRestLemmas.{untold-begins}
use Rattle.proactor_core.proofs.untold_law.untold_begins.Goals as goal

pub returns : goal.returns
returns c = untold-begins
