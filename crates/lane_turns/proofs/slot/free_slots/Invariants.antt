use Rattle.std.proofs.Common.{◌≡◌, None, length, replicate}
use Rattle.lane_turns.proofs.slot.free_slots.Given as goal

abbrev pub invariant-loop-slot : goal.invariant-loop-slot
invariant-loop-slot g l = l.rest.items ≡ replicate (length l.rest.items) None

abbrev pub decreases-loop-slot : goal.decreases-loop-slot
decreases-loop-slot g l = length l.rest.items
