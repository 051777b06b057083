use Rattle.std.proofs.Common.{◌≤◌, length}
use Rattle.std.specs.Vec.{vec_len}
use Rattle.io_scheduler.specs.Left.{NoneReady}
use Rattle.io_scheduler.proofs.states.next_state.Given as goal

abbrev pub invariant-loop-last : goal.invariant-loop-last
invariant-loop-last g l = NoneReady l.strands.items × (length l.strands.items ≤ length l.initial.strands.items)

abbrev pub decreases-loop-last : goal.decreases-loop-last
decreases-loop-last g l = vec_len l.strands
