use Rattle.io_scheduler.proofs.TimingLemmas.{one_or_none}
use Rattle.io_scheduler.proofs.timing.abort_those.Goals as goal

pub returns-else-all-clause-aborted : goal.returns-else-all-clause-aborted
returns-else-all-clause-aborted g c =
    rw c.if-all.false (one_or_none _ _ _ _ _ c.abort_first.ensures.aborted)
