use Rattle.std.specs.Vec.{vec_len}
use Rattle.io_context.proofs.sockets.SocketSet.close_all.Given as goal

abbrev pub decreases-stands : goal.decreases-stands
decreases-stands g l = vec_len l.stands
