use Rattle.std.proofs.Common.{◌∙◌, map}
use Rattle.op_future.specs.declared.seats.TaskSeat.{TaskSeat}
use Rattle.op_future.specs.Seats.{HasRunTask}
use Rattle.op_future.proofs.SeatLemmas.{all_seated, logs_stay, still_ready, tasks_did}
use Rattle.op_future.proofs.seats.run_tasks.Goals as goal

pub run_all-seats-requires-clause-may : goal.run_all-seats-requires-clause-may
run_all-seats-requires-clause-may g c κs within =
    all_seated (λ (seat : TaskSeat g.row.X.Denot g.row.H.Denot g.row.N.Denot g.row.T.Denot). seat.worker)
    (λ (seat : TaskSeat g.row.X.Denot g.row.H.Denot g.row.N.Denot g.row.T.Denot). seat.task) g.T.Task.state
    (HasRunTask g.N.LaneSession.names.script c.args.context.now) c.seat_each-seats.result.1 c.args.context.now
    c.seat_each-seats.result.0.items c.args.workers.all
    (c.seat_each-seats.ensures.workers ∙ c.apart-all.ensures.all) c.requires.ready.seats

pub returns-clause-ran : goal.returns-clause-ran
returns-clause-ran g c =
    tasks_did (λ (seat : TaskSeat g.row.X.Denot g.row.H.Denot g.row.N.Denot g.row.T.Denot). seat.worker)
    (λ (seat : TaskSeat g.row.X.Denot g.row.H.Denot g.row.N.Denot g.row.T.Denot). seat.task) g.T.Task.state
    (HasRunTask g.N.LaneSession.names.script c.args.context.now) c.seat_each-seats.result.1
    c.seat_each-seats.result.0.items c.run_all-seats.result.items c.run_all-seats.ensures.size c.run_all-seats.ensures.ran
    c.args.workers.all c.together.result.all c.args.tasks.items c.part_each-all.result.1.items
    (c.seat_each-seats.ensures.workers ∙ c.apart-all.ensures.all)
    (c.together.ensures.all ∙ c.part_each-all.ensures.workers) c.seat_each-seats.ensures.tasks
    c.part_each-all.ensures.tasks

pub returns-clause-ready : goal.returns-clause-ready
returns-clause-ready g c =
    still_ready g.N.LaneSession.names.script c.args.context.now c.args.workers.all c.together.result.all
    (map g.T.Task.state c.args.tasks.items) (map g.T.Task.state c.part_each-all.result.1.items)
    (returns-clause-ran g c) c.requires.ready

pub returns-clause-logs : goal.returns-clause-logs
returns-clause-logs g c =
    logs_stay g.N.LaneSession.names.script c.args.context.now c.args.workers.all c.together.result.all
    (map g.T.Task.state c.args.tasks.items) (map g.T.Task.state c.part_each-all.result.1.items)
    (returns-clause-ran g c)
