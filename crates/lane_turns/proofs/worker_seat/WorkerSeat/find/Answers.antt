use Rattle.std.proofs.Common.{refl, subst}
use Rattle.lane_turns.specs.Receipts.{FindsIn, SeatHasGone}
use Rattle.lane_turns.specs.Workers.{WorkerView}
use Rattle.lane_turns.proofs.ReceiptLemmas.{finds_gone, seat_finds}
use Rattle.lane_turns.proofs.WorkerLemmas.{worker_looks}
use Rattle.lane_turns.proofs.worker_seat.WorkerSeat.find.Goals as goal

pub invariant_of-self : goal.invariant_of-self
invariant_of-self g c =
    let old = c.self.inside in
    let looked = finds_gone c.args.lane c.args.cells c.args.op c.find.result old.pen c.find.new.self c.find.ensures in
    worker_looks g.N.LaneSession.names.script g.N.LaneSession.clock
    (record { pen = old.pen; round = old.round; drew = old.drew; stopped = old.stopped; in_step = old.in_step })
    c.self.invariant c.find.new.self c.args.lane looked.0 looked.1

pub returns : goal.returns
returns g c =
    let old = c.self.inside in
    subst (λ (before : WorkerView).
    FindsIn SeatHasGone c.args.lane c.args.cells c.args.op c.find.result before
    (record { pen = c.find.new.self; round = old.round; drew = old.drew; stopped = old.stopped; in_step = old.in_step }))
    c.self.view_is
    (seat_finds c.args.lane c.args.cells c.args.op c.find.result
    (record { pen = old.pen; round = old.round; drew = old.drew; stopped = old.stopped; in_step = old.in_step })
    (record { pen = c.find.new.self; round = old.round; drew = old.drew; stopped = old.stopped; in_step = old.in_step })
    refl refl refl refl c.find.ensures)
