use Rattle.std.proofs.Common.{length, sym, subst, ◌∙◌}
use Rattle.lane_turns.specs.Benches.{AreWorkers, places_of}
use Rattle.lane_turns.specs.KeptSteps.{AllRemember}
use Rattle.lane_turns.proofs.EventCutLemmas.{cuts_go_on}
use Rattle.lane_turns.proofs.EventLemmas.{closed_cuts, closed_heard, lanes_after, waited_cuts, workers_after}
use Rattle.lane_turns.proofs.RememberAllLemmas.{met_remember, same_remember}
use Rattle.lane_turns.proofs.events.close_all.Goals as goal

pub attend_bench-requires-clause-lanes_heard : goal.attend_bench-requires-clause-lanes_heard
attend_bench-requires-clause-lanes_heard g c =
    closed_heard g.B.Attendee.seat g.N.LaneSession.names.script g.N.LaneSession.clock (places_of g.B.Attendee.place c.hear_bench.new.lanes) c.args.closing c.hear_bench.new.opener c.close.new.self c.hear_bench.new.lanes
    (length c.hear_bench.new.lanes) c.is_one.ensures (c.close.ensures.closed c.if-not-close.false) c.hear_bench.ensures.lanes_heard

pub attend_bench-requires-clause-workers_heard : goal.attend_bench-requires-clause-workers_heard
attend_bench-requires-clause-workers_heard g c =
    closed_heard g.W.Attendee.seat g.N.LaneSession.names.script g.N.LaneSession.clock (places_of g.B.Attendee.place c.hear_bench.new.lanes) c.args.closing c.hear_bench.new.opener c.close.new.self c.hear_bench.new.workers
    (length c.hear_bench.new.workers) c.is_one.ensures (c.close.ensures.closed c.if-not-close.false) c.hear_bench.ensures.workers_heard

pub returns-then-not-close-clause-cuts : goal.returns-then-not-close-clause-cuts
returns-then-not-close-clause-cuts g c =
    waited_cuts g.N.LaneSession.names.script g.N.LaneSession.clock c.args.closing c.hear_bench.new.opener c.close.new.self c.is_one.ensures
    (c.close.ensures.waited c.if-not-close.true)
    (cuts_go_on g.N.LaneSession.names.script c.args.opener.now c.hear_bench.new.opener
    (sym c.hear_bench.ensures.on.number ∙ c.is_one.ensures.number) c.hear_bench.ensures.on c.requires.cuts)

pub returns-clause-cuts : goal.returns-clause-cuts
returns-clause-cuts g c =
    closed_cuts g.B.Attendee.seat g.W.Attendee.seat g.N.LaneSession.names.script g.N.LaneSession.clock c.hear_bench.new.opener c.close.new.self c.attend_bench.new.opener
    c.hear_bench.new.lanes c.attend_bench.new.lanes c.hear_bench.new.workers c.attend_bench.new.workers
    c.is_one.ensures c.hear_bench.ensures.lanes
    (subst (λ xs. AreWorkers g.W.Attendee.seat g.N.LaneSession.names.script xs) (sym c.hear_bench.ensures.same) c.requires.workers)
    c.hear_bench.ensures.lanes_heard c.hear_bench.ensures.workers_heard c.attend_bench.ensures.met
    (places_of g.B.Attendee.place c.hear_bench.new.lanes) c.args.closing
    (cuts_go_on g.N.LaneSession.names.script c.args.opener.now c.hear_bench.new.opener
    (sym c.hear_bench.ensures.on.number ∙ c.is_one.ensures.number) c.hear_bench.ensures.on c.requires.cuts) (c.close.ensures.closed c.if-not-close.false)

pub returns-clause-lanes : goal.returns-clause-lanes
returns-clause-lanes g c =
    lanes_after g.B.Attendee.seat g.W.Attendee.seat g.N.LaneSession.names.script g.N.LaneSession.clock c.hear_bench.new.opener c.close.new.self c.attend_bench.new.opener
    c.hear_bench.new.lanes c.attend_bench.new.lanes c.hear_bench.new.workers c.attend_bench.new.workers
    c.is_one.ensures c.hear_bench.ensures.lanes
    (subst (λ xs. AreWorkers g.W.Attendee.seat g.N.LaneSession.names.script xs) (sym c.hear_bench.ensures.same) c.requires.workers)
    c.hear_bench.ensures.lanes_heard c.hear_bench.ensures.workers_heard c.attend_bench.ensures.met

pub returns-clause-workers : goal.returns-clause-workers
returns-clause-workers g c =
    workers_after g.B.Attendee.seat g.W.Attendee.seat g.N.LaneSession.names.script g.N.LaneSession.clock c.hear_bench.new.opener c.close.new.self c.attend_bench.new.opener
    c.hear_bench.new.lanes c.attend_bench.new.lanes c.hear_bench.new.workers c.attend_bench.new.workers
    c.is_one.ensures c.hear_bench.ensures.lanes
    (subst (λ xs. AreWorkers g.W.Attendee.seat g.N.LaneSession.names.script xs) (sym c.hear_bench.ensures.same) c.requires.workers)
    c.hear_bench.ensures.lanes_heard c.hear_bench.ensures.workers_heard c.attend_bench.ensures.met

pub returns-then-not-close-clause-remember : goal.returns-then-not-close-clause-remember
returns-then-not-close-clause-remember g c =
    subst (λ xs. AllRemember g.W.Attendee.seat c.args.workers.now xs) (sym c.hear_bench.ensures.same)
    (same_remember g.W.Attendee.seat c.args.workers.now)

pub returns-clause-remember : goal.returns-clause-remember
returns-clause-remember g c =
    let met = c.attend_bench.ensures.met in
    subst (λ xs. AllRemember g.W.Attendee.seat xs c.attend_bench.new.workers) c.hear_bench.ensures.same
    (met_remember g.W.Attendee.seat g.N.LaneSession.names.script met.mid c.attend_bench.new.opener
    c.hear_bench.new.workers c.attend_bench.new.workers met.workers_size met.workers_met)
