use Rattle.std.specs.Vec.Iter.{into_iter_len}
use Rattle.lane_turns.proofs.discarding.discard_none_left.Given as goal

abbrev pub decreases-loop-hands : goal.decreases-loop-hands
decreases-loop-hands g l = into_iter_len l.rest
