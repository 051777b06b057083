use Rattle.std.proofs.Common.{◌≡◌, ◌+◌, false, length, subst, sym, ap, ◌∙◌}
use Rattle.std.proofs.lemmas.List.{length-map}
use Rattle.session_script.specs.Script.{ScriptModel}
use Rattle.lane_logs.specs.SeatNumbers.{lane_count}
use Rattle.lane_turns.specs.Benches.{places_of}
use Rattle.lane_turns.specs.OpenerEvents.{HasClosed, HasWaited}
use Rattle.lane_turns.specs.Openers.{OpenerView, round_of, stand_at}
use Rattle.lane_turns.proofs.CallLemmas.{closing_no_call}
use Rattle.lane_turns.proofs.OpenerClosingLemmas.{closed_opener, closing_room, has_closed, has_waited, still_opener}
use Rattle.lane_turns.proofs.opener.Opener.close.Goals as goal

pub invariant_of-self : goal.invariant_of-self
invariant_of-self g c =
    let at = stand_at c.self.inside.rounds in
    still_opener g.N.LaneSession.names.script g.N.LaneSession.clock (record { pen = c.self.inside.pen; stand = at })
    c.self.invariant (places_of g.B.Attendee.place c.args.lanes.now) c.args.closing c.load-found.result
    c.round-round.result c.weigh.result c.load-found.new.self c.weigh.new.pen
    (c.round-round.ensures ∙ ap (λ s. round_of s at) c.requires.script) c.load-found.ensures.gone c.args.map.now
    (c.requires.map ∙ c.requires.script) c.weigh.ensures

pub returns-then-not-weigh-clause-waited : goal.returns-then-not-weigh-clause-waited
returns-then-not-weigh-clause-waited g c =
    let at = stand_at c.self.inside.rounds in
    λ none.
    subst (λ (old : OpenerView).
    HasWaited g.N.LaneSession.names.script c.args.closing old (record { pen = c.weigh.new.pen; stand = at }))
    c.self.view_is
    (has_waited g.N.LaneSession.names.script g.N.LaneSession.clock (record { pen = c.self.inside.pen; stand = at })
    c.self.invariant (places_of g.B.Attendee.place c.args.lanes.now) c.args.closing c.load-found.result
    c.round-round.result c.weigh.result c.load-found.new.self c.weigh.new.pen
    (c.round-round.ensures ∙ ap (λ s. round_of s at) c.requires.script) c.load-found.ensures.gone c.args.map.now
    (c.requires.map ∙ c.requires.script) c.weigh.ensures c.if-not-weigh.true)

pub draw-requires-clause-clock : goal.draw-requires-clause-clock
draw-requires-clause-clock g c =
    let at = stand_at c.self.inside.rounds in
    (still_opener g.N.LaneSession.names.script g.N.LaneSession.clock (record { pen = c.self.inside.pen; stand = at })
    c.self.invariant (places_of g.B.Attendee.place c.args.lanes.now) c.args.closing c.load-found.result
    c.round-round.result c.weigh.result c.load-found.new.self c.weigh.new.pen
    (c.round-round.ensures ∙ ap (λ s. round_of s at) c.requires.script) c.load-found.ensures.gone c.args.map.now
    (c.requires.map ∙ c.requires.script) c.weigh.ensures).clock_is
    ∙ sym c.requires.clock

pub draw-requires-clause-room : goal.draw-requires-clause-room
draw-requires-clause-room g c =
    let at = stand_at c.self.inside.rounds in
    closing_room g.N.LaneSession.names.script g.N.LaneSession.clock (record { pen = c.self.inside.pen; stand = at })
    c.self.invariant (places_of g.B.Attendee.place c.args.lanes.now) c.args.closing c.load-found.result
    c.round-round.result c.weigh.result c.load-found.new.self c.weigh.new.pen
    (c.round-round.ensures ∙ ap (λ s. round_of s at) c.requires.script) c.load-found.ensures.gone c.args.map.now
    (c.requires.map ∙ c.requires.script) c.weigh.ensures (rw (← c.self.view_is) at c.requires.round)

pub invariant_of-self-2 : goal.invariant_of-self-2
invariant_of-self-2 g c =
    let at = stand_at c.self.inside.rounds in
    let places = places_of g.B.Attendee.place c.args.lanes.now in
    let count : length places ≡ lane_count g.N.LaneSession.names.script =
    length-map c.args.lanes.now g.B.Attendee.place ∙ c.requires.lanes.size
    ∙ ap (λ (s : ScriptModel). lane_count s) c.requires.script in
    closed_opener g.N.LaneSession.names.script g.N.LaneSession.clock (record { pen = c.self.inside.pen; stand = at })
    c.self.invariant places c.args.closing c.load-found.result c.round-round.result c.weigh.result
    c.load-found.new.self c.weigh.new.pen (c.round-round.ensures ∙ ap (λ s. round_of s at) c.requires.script)
    c.load-found.ensures.gone c.args.map.now (c.requires.map ∙ c.requires.script) c.weigh.ensures
    (rw (← c.self.view_is) at c.requires.round) c.if-not-weigh.false c.event.result c.change.result c.draw.result
    c.draw.new.self c.event.ensures c.change.ensures c.draw.ensures count
    (rw (← c.self.view_is) at c.requires.started) (rw (← c.self.view_is) at c.requires.working)

pub returns-clause-closed : goal.returns-clause-closed
returns-clause-closed g c =
    let at = stand_at c.self.inside.rounds in
    let places = places_of g.B.Attendee.place c.args.lanes.now in
    λ so.
    subst (λ (old : OpenerView).
    HasClosed g.N.LaneSession.names.script places c.args.closing old (record {
      pen = c.draw.new.self;
      stand = record at { closings = at.closings + 1; restarted = false };
    })) c.self.view_is
    (has_closed g.N.LaneSession.names.script g.N.LaneSession.clock (record { pen = c.self.inside.pen; stand = at })
    c.self.invariant places c.args.closing c.load-found.result c.round-round.result c.weigh.result
    c.load-found.new.self c.weigh.new.pen (c.round-round.ensures ∙ ap (λ s. round_of s at) c.requires.script)
    c.load-found.ensures.gone c.args.map.now (c.requires.map ∙ c.requires.script) c.weigh.ensures
    (rw (← c.self.view_is) at c.requires.round) c.if-not-weigh.false c.event.result c.change.result c.draw.result
    c.draw.new.self c.event.ensures c.change.ensures c.draw.ensures)

pub draw-requires-clause-other : goal.draw-requires-clause-other
draw-requires-clause-other g c = closing_no_call c.args.closing c.event.result c.event.ensures
