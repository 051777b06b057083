use Rattle.std.proofs.Common.{◌∙◌, ap, subst, sym}
use Rattle.std.specs.Prelude.{slice_get}
use Rattle.lane_turns.specs.AllWorkers.{AreReady}
use Rattle.op_future.specs.SeatedWorkers.{IsReadyAs}
use Rattle.op_future.proofs.SeatedWorkerLemmas.{ready_at}
use Rattle.future_tests.proofs.SeatedLemmas.{pushed, three_ready}
use Rattle.future_tests.proofs.joined.run_joined.Goals as goal

pub of-first-requires : goal.of-first-requires
of-first-requires g c =
    let script = g.N.LaneSession.names.script in
    let first = c.three_of-first.result.first in
    let three = sym c.apart-all.ensures.all ∙ c.three_of-first.ensures.all in
    record {
      ready =
          subst (λ lanes. IsReadyAs script lanes 0 first) c.requires.lanes
          (ready_at script c.args.context.now c.args.workers.all c.requires.ready 0 first
          (ap (λ all. slice_get all 0) three));
    }

pub of-second-requires : goal.of-second-requires
of-second-requires g c =
    let script = g.N.LaneSession.names.script in
    let second = c.three_of-first.result.second in
    let three = sym c.apart-all.ensures.all ∙ c.three_of-first.ensures.all in
    record {
      ready =
          subst (λ lanes. IsReadyAs script lanes 1 second) c.requires.lanes
          (ready_at script c.args.context.now c.args.workers.all c.requires.ready 1 second
          (ap (λ all. slice_get all 1) three));
    }

pub returns-clause-ready : goal.returns-clause-ready
returns-clause-ready g c =
    let script = g.N.LaneSession.names.script in
    let lanes = c.args.context.now in
    let own = c.three_of-first.result.own in
    let three = sym c.apart-all.ensures.all ∙ c.three_of-first.ensures.all in
    let back =
    pushed c.three_of-first.result.rest.items c.push_reserved.new.self.items c.push_reserved-2.new.self.items
    c.push_reserved-3.new.self.items c.leave_as.result c.leave_as-2.result own c.three_of-first.ensures.none
    c.push_reserved.ensures.items c.push_reserved-2.ensures.items c.push_reserved-3.ensures.items in
    subst (λ all. AreReady script lanes all) (sym (c.together.ensures.all ∙ back))
    (three_ready script lanes c.leave_as.result c.leave_as-2.result own (sym c.requires.ready.rows.size ∙ c.requires.three)
    (sym c.requires.ready.seats.size ∙ c.requires.three)
    (subst (λ l. IsReadyAs script l 0 c.leave_as.result) (sym c.requires.lanes) c.leave_as.ensures.ready)
    (subst (λ l. IsReadyAs script l 1 c.leave_as-2.result) (sym c.requires.lanes) c.leave_as-2.ensures.ready)
    (ready_at script lanes c.args.workers.all c.requires.ready 2 own (ap (λ all. slice_get all 2) three)))
