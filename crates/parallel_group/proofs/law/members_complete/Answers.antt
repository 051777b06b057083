use Rattle.parallel_group.proofs.EachCompletesLemmas.{each_completes}
use Rattle.parallel_group.proofs.law.members_complete.Goals as goal

pub returns : goal.returns
returns c = each_completes
