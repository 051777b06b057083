use Rattle.std.specs.Prelude.{length}
use Rattle.io_context.proofs.finishing.discard_all.Given as goal

abbrev pub decreases-handlers : goal.decreases-handlers
decreases-handlers g l = length l.left.ops
