use Rattle.io_strands.proofs.law.strands_step_alike.Goals as goal
use Rattle.io_strands.proofs.StepLemmas.{steps_alike}

pub returns : goal.returns
returns g c = steps_alike
