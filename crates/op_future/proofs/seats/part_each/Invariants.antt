use Rattle.std.proofs.Common.{◌≡◌, ◌++◌, map}
use Rattle.std.specs.Prelude.{vec_capacity}
use Rattle.std.specs.Vec.Iter.{into_iter_items, into_iter_len}
use Rattle.op_future.specs.declared.seats.TaskSeat.{TaskSeat}
use Rattle.op_future.proofs.seats.part_each.Given as goal

abbrev pub invariant-loop-seat : goal.invariant-loop-seat
invariant-loop-seat g l =
    record {
      workers : l.workers.items ++ map (λ (seat : TaskSeat g.row.X.Denot g.row.H.Denot g.row.N.Denot g.row.T.Denot). seat.worker) (into_iter_items l.seats)
          ≡ map (λ (seat : TaskSeat g.row.X.Denot g.row.H.Denot g.row.N.Denot g.row.T.Denot). seat.worker) l.fn.seats.items;
      tasks : l.tasks.items ++ map (λ (seat : TaskSeat g.row.X.Denot g.row.H.Denot g.row.N.Denot g.row.T.Denot). seat.task) (into_iter_items l.seats)
          ≡ map (λ (seat : TaskSeat g.row.X.Denot g.row.H.Denot g.row.N.Denot g.row.T.Denot). seat.task) l.fn.seats.items;
      worker_room : vec_capacity l.workers ≡ vec_capacity l.fn.workers;
      task_room : vec_capacity l.tasks ≡ vec_capacity l.fn.tasks;
    }

abbrev pub decreases-loop-seat : goal.decreases-loop-seat
decreases-loop-seat g l = into_iter_len l.seats
