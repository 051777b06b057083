use Rattle.std.proofs.Common.{◌≡◌}
use Rattle.reactor_trait.specs.Reactor.{state_ready}
use Rattle.asio_speed.proofs.sockets.read_all.Given as goal

abbrev pub invariant-loop : goal.invariant-loop
invariant-loop g l = g.X.Reactor.state l.reactor ≡ state_ready l.world
