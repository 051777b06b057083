use Rattle.std.proofs.Common.{◌≡◌, ◌<◌, true, arith, ap, refl, subst, sym, ◌∙◌}
use Rattle.lane_map.specs.LaneNumbers.{home_lane, reactor_lane}
use Rattle.session_script.specs.Script.{is_op}
use Rattle.lane_turns.proofs.ReactorFaultLemmas.{fault_remembered}
use Rattle.lane_turns.proofs.ReceiptLemmas.{cell_op, finds_on, finds_receipt, pen_finds}
use Rattle.lane_turns.proofs.ScanLemmas.{goes_on}
use Rattle.lane_context.proofs.context.Context.result.Goals as goal

pub returns-clause-receipt : goal.returns-clause-receipt
returns-clause-receipt g c =
    let script = g.N.LaneSession.names.script in
    let op = c.args.op in
    let below =
    subst (λ s. home_lane s op < reactor_lane s) c.self.invariant.script
    (c.operations_have_lanes.ensures op
    (subst (λ s. is_op s op ≡ true) (sym c.self.invariant.script) (cell_op script op c.requires.op))) in
    let home : c.home-lane.result ≡ home_lane script op =
    c.home-lane.ensures ∙ ap (λ s. home_lane s op) c.self.invariant.map in
    finds_receipt script c.home-lane.result _ op c.find.result c.worker.inside.seat.pen c.find.new.self.pen
    (omega (arith, below, home))
    (pen_finds c.home-lane.result _ op c.find.result c.worker.inside.seat c.find.new.self c.find.ensures)

pub returns-clause-on : goal.returns-clause-on
returns-clause-on g c =
    rw (← c.worker.view_is)
    (goes_on _ _ (finds_on c.home-lane.result _ c.args.op c.find.result c.worker.inside.seat c.find.new.self c.find.ensures)
    refl)

pub invariant_of-worker : goal.invariant_of-worker
invariant_of-worker g c =
    record {
      turns = c.worker.invariant.turns;
      last = c.worker.invariant.last;
      room = c.worker.invariant.room;
      knows = λ faulted.
          fault_remembered g.N.LaneSession.names.script c.worker.inside.seat.pen.seat c.find.new.self.pen.seat
          (finds_on c.home-lane.result _ c.args.op c.find.result c.worker.inside.seat c.find.new.self c.find.ensures).remembers
          (c.worker.invariant.knows faulted);
    }
