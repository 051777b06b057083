use Rattle.std.proofs.Common.{◌≡◌}
use Rattle.reactor_mio.proofs.playing.Playing.pump_all.Given as goal

abbrev pub invariant-loop-stream : goal.invariant-loop-stream
invariant-loop-stream l = l.self ≡ l.initial.self
