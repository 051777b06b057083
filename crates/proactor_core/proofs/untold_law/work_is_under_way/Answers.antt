use Rattle.proactor_core.proofs.UntoldStreamLemmas.{work-is-under-way}
use Rattle.proactor_core.proofs.untold_law.work_is_under_way.Goals as goal

pub returns : goal.returns
returns c = work-is-under-way
