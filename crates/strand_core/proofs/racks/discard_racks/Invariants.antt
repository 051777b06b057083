use Rattle.std.specs.Vec.Iter.{into_iter_len}
use Rattle.strand_core.proofs.racks.discard_racks.Given as goal

abbrev pub decreases-loop-rack : goal.decreases-loop-rack
decreases-loop-rack g l = into_iter_len l.rest
