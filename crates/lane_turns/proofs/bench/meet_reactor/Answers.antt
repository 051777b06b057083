use Rattle.std.proofs.Common.{◌≡◌, ◌≢◌, ℕ, ◌-◌, ◌+◌, ◌<◌, Some, get_or, length, subst, arith}
use Rattle.std.specs.Prelude.{slice_get}
use Rattle.std.proofs.lemmas.Option.{slice_get-get_or}
use Rattle.lane_map.specs.LaneNumbers.{reactor_lane}
use Rattle.lane_map.proofs.NumberLemmas.{lane_count as lanes_and_reactor}
use Rattle.lane_logs.specs.Cuts.{NoneStops}
use Rattle.lane_logs.specs.Knowing.{lists_of}
use Rattle.lane_logs.specs.SeatNumbers.{lane_count}
use Rattle.lane_turns.proofs.AttendingLemmas.{on_heard}
use Rattle.lane_turns.proofs.MeetReactorLemmas.{heard_met, none_met, places_set, row_met, started_met}
use Rattle.lane_turns.proofs.bench.meet_reactor.Goals as goal

pub returns-clause-on : goal.returns-clause-on
returns-clause-on g c =
    on_heard g.N.LaneSession.names.script (g.T.Attendee.seat c.attend.new.self) c.args.opener.now c.attend.new.opener
    c.attend.ensures.met.heard

pub returns-clause-lanes : goal.returns-clause-lanes
returns-clause-lanes g c =
    let lanes = c.args.lanes.now in
    let i : ℕ = length lanes - 1 in
    let one = get_or lanes i c.index-lanes-last.result in
    let some_lane = lanes_and_reactor g.N.LaneSession.names.script in
    let within : i < length lanes = omega (arith, c.requires.lanes.size, some_lane) in
    let at : slice_get lanes i ≡ Some one = slice_get-get_or lanes i c.index-lanes-last.result within in
    row_met g.T.Attendee.seat g.N.LaneSession.names.script c.args.opener.now c.attend.new.opener lanes i one
    c.attend.new.self at c.attend.ensures.met 0 (lane_count g.N.LaneSession.names.script) c.requires.lanes

pub returns-clause-places : goal.returns-clause-places
returns-clause-places g c =
    let lanes = c.args.lanes.now in
    let i : ℕ = length lanes - 1 in
    let one = get_or lanes i c.index-lanes-last.result in
    let some_lane = lanes_and_reactor g.N.LaneSession.names.script in
    let within : i < length lanes = omega (arith, c.requires.lanes.size, some_lane) in
    let at : slice_get lanes i ≡ Some one = slice_get-get_or lanes i c.index-lanes-last.result within in
    places_set g.T.Attendee.place lanes i one c.attend.new.self at c.attend.ensures.place

pub returns-clause-heard : goal.returns-clause-heard
returns-clause-heard g c =
    let lanes = c.args.lanes.now in
    let i : ℕ = length lanes - 1 in
    let one = get_or lanes i c.index-lanes-last.result in
    let some_lane = lanes_and_reactor g.N.LaneSession.names.script in
    let within : i < length lanes = omega (arith, c.requires.lanes.size, some_lane) in
    let at : slice_get lanes i ≡ Some one = slice_get-get_or lanes i c.index-lanes-last.result within in
    heard_met g.T.Attendee.seat g.N.LaneSession.names.script c.args.opener.now c.attend.new.opener lanes i one
    c.attend.new.self at c.attend.ensures.met (length lanes) c.requires.heard

pub returns-clause-started : goal.returns-clause-started
returns-clause-started g c =
    let lanes = c.args.lanes.now in
    let i : ℕ = length lanes - 1 in
    let one = get_or lanes i c.index-lanes-last.result in
    let some_lane = lanes_and_reactor g.N.LaneSession.names.script in
    let within : i < length lanes = omega (arith, c.requires.lanes.size, some_lane) in
    let at : slice_get lanes i ≡ Some one = slice_get-get_or lanes i c.index-lanes-last.result within in
    started_met g.T.Attendee.seat g.N.LaneSession.names.script c.args.opener.now c.attend.new.opener lanes i one
    c.attend.new.self at c.attend.ensures.met g.T.Attendee.place (length lanes) within
    c.attend.ensures.place c.requires.started

pub returns-clause-works : goal.returns-clause-works
returns-clause-works g c =
    let lanes = c.args.lanes.now in
    let i : ℕ = length lanes - 1 in
    let one = get_or lanes i c.index-lanes-last.result in
    let some_lane = lanes_and_reactor g.N.LaneSession.names.script in
    let within : i < length lanes = omega (arith, c.requires.lanes.size, some_lane) in
    let at : slice_get lanes i ≡ Some one = slice_get-get_or lanes i c.index-lanes-last.result within in
    let numbered : (g.T.Attendee.seat one).number ≡ 0 + i = c.requires.lanes.numbers i one at in
    let last : (g.T.Attendee.seat one).number ≡ reactor_lane g.N.LaneSession.names.script =
    omega (arith, numbered, c.requires.lanes.size, some_lane) in
    let here : i ≡ reactor_lane g.N.LaneSession.names.script = omega (arith, numbered, last) in
    let apart : (g.T.Attendee.seat one).number ≢ c.args.opener.now.pen.seat.number =
    λ same. absurd (omega (arith, same, c.is_one.ensures.number, last, some_lane)) in
    subst (λ n. NoneStops (lists_of c.attend.new.opener.pen.seat n)) last
    (none_met g.T.Attendee.seat g.N.LaneSession.names.script c.args.opener.now c.attend.new.opener lanes i one
    c.attend.new.self at c.attend.ensures.met c.attend.ensures.owns apart
    (c.requires.works one (subst (λ k. slice_get lanes k ≡ Some one) here at)))
