use Rattle.std.proofs.Common.{◌≡◌, [], None, Option, arith, subst}
use Rattle.std.specs.Vec.Iter.{into_iter_items, into_iter_len, into_iter_steps}
use Rattle.std.proofs.lemmas.List.{nil_from_length}
use Rattle.lane_turns.proofs.PartingLemmas.{none_else}
use Rattle.op_future.specs.declared.seats.TaskSeat.{TaskSeat}
use Rattle.op_future.proofs.SeatLemmas.{all_sit}
use Rattle.op_future.proofs.seats.seat_each.Goals as goal

pub returns-clause-workers : goal.returns-clause-workers
returns-clause-workers g c =
    let none : c.next.result ≡ None = none_else c.next.result c.in_default.not-Some in
    let ended : into_iter_len c.loop-task.tasks ≡ 0 =
    (subst (λ (o : Option g.row.T.Denot). into_iter_steps c.loop-task.tasks o c.next.new.self) none
    c.next.ensures.cases).0 in
    let nobody : into_iter_items c.loop-task.tasks ≡ [] =
    nil_from_length (into_iter_items c.loop-task.tasks) (omega (arith, ended, c.loop-task.tasks.rest.ok)) in
    (all_sit (λ (seat : TaskSeat g.row.X.Denot g.row.H.Denot g.row.N.Denot g.row.T.Denot). seat.worker)
    (λ (seat : TaskSeat g.row.X.Denot g.row.H.Denot g.row.N.Denot g.row.T.Denot). seat.task) c.loop-task.seats.items
    c.in-Some-next-2.own (into_iter_items c.loop-task.workers) (into_iter_items c.next-2.new.self) c.args.workers.items
    (into_iter_items c.loop-task.tasks) c.args.tasks.items c.loop-task.invariant.workers c.loop-task.invariant.tasks nobody
    c.in-Some-next-2.ensures.items c.requires.count).0

pub returns-clause-tasks : goal.returns-clause-tasks
returns-clause-tasks g c =
    let none : c.next.result ≡ None = none_else c.next.result c.in_default.not-Some in
    let ended : into_iter_len c.loop-task.tasks ≡ 0 =
    (subst (λ (o : Option g.row.T.Denot). into_iter_steps c.loop-task.tasks o c.next.new.self) none
    c.next.ensures.cases).0 in
    let nobody : into_iter_items c.loop-task.tasks ≡ [] =
    nil_from_length (into_iter_items c.loop-task.tasks) (omega (arith, ended, c.loop-task.tasks.rest.ok)) in
    (all_sit (λ (seat : TaskSeat g.row.X.Denot g.row.H.Denot g.row.N.Denot g.row.T.Denot). seat.worker)
    (λ (seat : TaskSeat g.row.X.Denot g.row.H.Denot g.row.N.Denot g.row.T.Denot). seat.task) c.loop-task.seats.items
    c.in-Some-next-2.own (into_iter_items c.loop-task.workers) (into_iter_items c.next-2.new.self) c.args.workers.items
    (into_iter_items c.loop-task.tasks) c.args.tasks.items c.loop-task.invariant.workers c.loop-task.invariant.tasks nobody
    c.in-Some-next-2.ensures.items c.requires.count).1
