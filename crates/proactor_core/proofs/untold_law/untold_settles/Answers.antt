use Rattle.proactor_core.proofs.UntoldSettleLemmas.{untold-settles}
use Rattle.proactor_core.proofs.untold_law.untold_settles.Goals as goal

pub returns : goal.returns
returns c = untold-settles
