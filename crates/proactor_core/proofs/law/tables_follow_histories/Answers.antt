use Rattle.proactor_core.proofs.FollowingLemmas.{follows}
use Rattle.proactor_core.proofs.law.tables_follow_histories.Goals as goal

pub returns : goal.returns
returns c = follows
