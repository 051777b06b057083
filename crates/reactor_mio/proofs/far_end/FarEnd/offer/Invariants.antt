use Rattle.std.proofs.Common.{◌≡◌, length}
use Rattle.reactor_mio.proofs.far_end.FarEnd.offer.Given as goal

abbrev pub invariant-loop-self : goal.invariant-loop-self
invariant-loop-self l = (l.inbound.mark ≡ l.initial.inbound.mark) × (l.inbound.left ≡ l.initial.inbound.left)

abbrev pub decreases-loop-self : goal.decreases-loop-self
decreases-loop-self l = length l.inbound.arrived
