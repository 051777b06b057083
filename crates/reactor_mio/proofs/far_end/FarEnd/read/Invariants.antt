use Rattle.std.proofs.Common.{◌≡◌}
use Rattle.reactor_mio.proofs.far_end.FarEnd.read.Given as goal

abbrev pub invariant-loop-buf : goal.invariant-loop-buf
invariant-loop-buf l = (l.outbound.mark ≡ l.initial.outbound.mark) × (l.outbound.left ≡ l.initial.outbound.left)

abbrev pub decreases-loop-buf : goal.decreases-loop-buf
decreases-loop-buf l = l.outbound.room
