use Rattle.std.specs.Vec.{vec_len}
use Rattle.io_context.proofs.calls.close_lists.Given as goal

abbrev pub decreases-lists : goal.decreases-lists
decreases-lists g l = vec_len l.lists
