use Rattle.std.proofs.Common.{◌≡◌, []}
use Rattle.asio_speed.proofs.channel.receive_all.Given as goal

abbrev pub invariant-loop : goal.invariant-loop
invariant-loop l = l.chan.due ≡ []
