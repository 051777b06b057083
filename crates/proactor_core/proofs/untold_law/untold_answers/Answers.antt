use Rattle.proactor_core.proofs.UntoldRestLemmas.{untold-answers}
use Rattle.proactor_core.proofs.untold_law.untold_answers.Goals as goal

pub returns : goal.returns
returns c = untold-answers
