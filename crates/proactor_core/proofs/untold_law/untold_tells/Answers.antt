use Rattle.proactor_core.proofs.UntoldTellLemmas.{untold-tells}
use Rattle.proactor_core.proofs.untold_law.untold_tells.Goals as goal

pub returns : goal.returns
returns c = untold-tells
