use Rattle.std.proofs.Common.{◌≡◌, ◌++◌, map}
use Rattle.std.specs.Prelude.{vec_capacity}
use Rattle.std.specs.Vec.Iter.{into_iter_items, into_iter_len}
use Rattle.op_future.specs.declared.seats.TaskSeat.{TaskSeat}
use Rattle.op_future.proofs.seats.seat_each.Given as goal

abbrev pub invariant-loop-task : goal.invariant-loop-task
invariant-loop-task g l =
    record {
      workers : map (λ (seat : TaskSeat g.row.X.Denot g.row.H.Denot g.row.N.Denot g.row.T.Denot). seat.worker) l.seats.items
          ++ into_iter_items l.workers ≡ l.fn.workers.items;
      tasks : map (λ (seat : TaskSeat g.row.X.Denot g.row.H.Denot g.row.N.Denot g.row.T.Denot). seat.task) l.seats.items
          ++ into_iter_items l.tasks ≡ l.fn.tasks.items;
      capacity : vec_capacity l.seats ≡ vec_capacity l.fn.room;
    }

abbrev pub decreases-loop-task : goal.decreases-loop-task
decreases-loop-task g l = into_iter_len l.tasks
