use Rattle.std.proofs.Common.{◌≡◌, []}
use Rattle.asio_speed.proofs.channel.send_all.Given as goal

abbrev pub invariant-loop-value : goal.invariant-loop-value
invariant-loop-value l = l.chan.due ≡ []
