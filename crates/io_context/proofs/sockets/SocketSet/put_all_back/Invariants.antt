use Rattle.std.specs.Vec.{vec_len}
use Rattle.io_context.proofs.sockets.SocketSet.put_all_back.Given as goal

abbrev pub decreases-calls : goal.decreases-calls
decreases-calls g l = vec_len l.calls
