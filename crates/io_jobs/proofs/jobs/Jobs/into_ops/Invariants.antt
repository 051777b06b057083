use Rattle.std.proofs.Common.{◌≡◌, ◌+◌, ◌≤◌, ◌++◌}
use Rattle.std.specs.Prelude.{vec_capacity, vec_len}
use Rattle.std.specs.VecDeque.{deque_len}
use Rattle.io_jobs.specs.Listed.{ops_in, owns}
use Rattle.io_jobs.proofs.jobs.Jobs.into_ops.Given as goal

abbrev pub invariant-loop-job : goal.invariant-loop-job
invariant-loop-job g l = record {
  moved : l.ops.items ++ ops_in l.ring.items ≡ ops_in l.fn.self.ring;
  room : vec_len l.ops + owns l.ring.items ≤ vec_capacity l.ops;
  whole : l.fn.self.room ≤ vec_capacity l.ops;
}

abbrev pub decreases-loop-job : goal.decreases-loop-job
decreases-loop-job g l = deque_len l.ring
