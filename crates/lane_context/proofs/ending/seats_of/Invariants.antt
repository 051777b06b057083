use Rattle.std.proofs.Common.{◌≡◌, ◌++◌, List, map}
use Rattle.std.specs.Prelude.{vec_capacity}
use Rattle.std.specs.Vec.Iter.{into_iter_items, into_iter_len}
use Rattle.lane_turns.specs.Attempts.{WorkerState}
use Rattle.lane_context.proofs.ending.seats_of.Given as goal

abbrev pub decreases-loop-worker : goal.decreases-loop-worker
decreases-loop-worker g l = into_iter_len l.rest

abbrev pub invariant-loop-worker : goal.invariant-loop-worker
invariant-loop-worker g l = record {
  front : List (WorkerState g.row.H.Denot g.row.X.Denot);
  split : l.fn.workers.items ≡ front ++ into_iter_items l.rest;
  made : l.all.items ≡ map (λ (worker : WorkerState g.row.H.Denot g.row.X.Denot). worker.seat) front;
  capacity : vec_capacity l.all ≡ vec_capacity l.fn.seats;
}
