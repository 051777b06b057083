use Rattle.std.proofs.Common.{sym}
use Rattle.io_scheduler.proofs.CalledLemmas.{offered_else}
use Rattle.io_scheduler.proofs.scheduler.Scheduler.initiate_by.Goals as goal

pub call_by-requires-clause-offered : goal.call_by-requires-clause-offered
call_by-requires-clause-offered g c =
    offered_else c.args.call.kind (sym c.if-is_transfer.ensures) c.requires.offered.offered
