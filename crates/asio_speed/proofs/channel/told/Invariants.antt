use Rattle.std.proofs.Common.{length}
use Rattle.asio_speed.proofs.channel.told.Given as goal

abbrev pub decreases-loop-done : goal.decreases-loop-done
decreases-loop-done l = length l.chan.due
