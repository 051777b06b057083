use Rattle.history_progress.proofs.BoundedLemmas.{bounded}
use Rattle.history_progress.proofs.law.work_is_bounded.Goals as goal

pub returns : goal.returns
returns c script told events well legal = bounded script well told events legal
