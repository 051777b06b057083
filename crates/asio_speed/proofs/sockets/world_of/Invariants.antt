use Rattle.std.proofs.Common.{◌<◌, All}
use Rattle.asio_speed.proofs.sockets.world_of.Given as goal

abbrev pub invariant-loop-stream : goal.invariant-loop-stream
invariant-loop-stream l = All (λ line. line.stream < l.streams) l.lines.items
