use Rattle.std.proofs.Common.{arith}
use Rattle.std.specs.Vec.Iter.{into_iter_items}
use Rattle.op_future.specs.declared.seats.TaskSeat.{TaskSeat}
use Rattle.op_future.proofs.SeatLemmas.{fewer_made, some_made}
use Rattle.op_future.proofs.seats.part_each.Goals as goal

pub push_reserved-requires : goal.push_reserved-requires
push_reserved-requires g c =
    let few =
    fewer_made (λ (seat : TaskSeat g.row.X.Denot g.row.H.Denot g.row.N.Denot g.row.T.Denot). seat.worker) c.loop-seat.workers.items
    (into_iter_items c.loop-seat.seats) c.args.seats.items c.loop-seat.invariant.workers c.in-Some.seat
    (into_iter_items c.next.new.self) c.in-Some.ensures.items in
    omega (arith, few, c.requires.workers.enough, c.loop-seat.invariant.worker_room, c.loop-seat.workers.ok)

pub push_reserved-requires-in-Some : goal.push_reserved-requires-in-Some
push_reserved-requires-in-Some g c =
    let few =
    fewer_made (λ (seat : TaskSeat g.row.X.Denot g.row.H.Denot g.row.N.Denot g.row.T.Denot). seat.task) c.loop-seat.tasks.items
    (into_iter_items c.loop-seat.seats) c.args.seats.items c.loop-seat.invariant.tasks c.in-Some.seat
    (into_iter_items c.next.new.self) c.in-Some.ensures.items in
    omega (arith, few, c.requires.tasks.enough, c.loop-seat.invariant.task_room, c.loop-seat.tasks.ok)

pub push_reserved-requires-2 : goal.push_reserved-requires-2
push_reserved-requires-2 g c =
    let some =
    some_made (λ (seat : TaskSeat g.row.X.Denot g.row.H.Denot g.row.N.Denot g.row.T.Denot). seat.worker) c.loop-seat.workers.items
    (into_iter_items c.loop-seat.seats) c.args.seats.items c.loop-seat.invariant.workers in
    omega (arith, some, c.requires.workers.enough, c.loop-seat.invariant.worker_room, c.loop-seat.workers.ok)
