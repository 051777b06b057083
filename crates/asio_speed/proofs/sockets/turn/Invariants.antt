use Rattle.std.proofs.Common.{◌≡◌}
use Rattle.reactor_trait.specs.Reactor.{state_ready}
use Rattle.asio_speed.proofs.sockets.turn.Given as goal

abbrev pub invariant-loop-stream : goal.invariant-loop-stream
invariant-loop-stream g l = g.X.Reactor.state l.reactor ≡ state_ready l.world
