use Rattle.proactor_core.proofs.UntoldRestLemmas.{untold-rests}
use Rattle.proactor_core.proofs.untold_law.untold_rests.Goals as goal

pub returns : goal.returns
returns c = untold-rests
