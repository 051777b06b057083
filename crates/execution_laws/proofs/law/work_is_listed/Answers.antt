use Rattle.execution_laws.proofs.WorkLemmas.{is_work_listed}
use Rattle.execution_laws.proofs.law.work_is_listed.Goals as goal

pub returns : goal.returns
returns c = is_work_listed
