use Rattle.io_timers.proofs.DueFirstLemmas.{complete_by_expiry}
use Rattle.io_timers.proofs.law.waits_complete_by_expiry.Goals as goal

pub returns : goal.returns
returns c = complete_by_expiry
