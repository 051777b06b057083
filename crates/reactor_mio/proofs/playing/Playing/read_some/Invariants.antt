use Rattle.std.proofs.Common.{◌≡◌, length}
use Rattle.reactor_mio.proofs.playing.Playing.read_some.Given as goal

abbrev pub invariant-loop : goal.invariant-loop
invariant-loop l = (l.self ≡ l.initial.self) × (length l.buf ≡ length l.initial.buf)
