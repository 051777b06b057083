use Rattle.std.proofs.Common.{length}
use Rattle.io_reactor_memory.proofs.room.+total.Given as goal

abbrev pub decreases-total : goal.decreases-total
decreases-total l = length l.takes.now
