use Rattle.std.proofs.Common.{ap, subst, sym, ◌∙◌}
use Rattle.session_script.specs.Script.{ScriptModel}
use Rattle.lane_logs.specs.Parts.{looks_empty, looks_full}
use Rattle.lane_turns.specs.Batons.{LaneView}
use Rattle.lane_turns.specs.Pens.{HasGone, PenView}
use Rattle.lane_turns.specs.Polling.{with_pen}
use Rattle.lane_turns.specs.ReactorPolling.{TurnCameTo}
use Rattle.lane_turns.specs.Turning.{HasTurnRoom}
use Rattle.lane_turns.proofs.PollingLemmas.{standing}
use Rattle.lane_turns.proofs.ReactorPollingLemmas.{empty_room, from_view, full_room, loaded_room}
use Rattle.lane_turns.proofs.reactor_polling.poll_reactor.Goals as goal

pub returns-then-failed-clause-room : goal.returns-then-failed-clause-room
returns-then-failed-clause-room g c =
    loaded_room g.N.LaneSession.names c.load.result c.state.inside.pen c.load.new.self c.load.ensures.gone
    (subst (λ (s : LaneView). HasTurnRoom g.N.LaneSession.names s.pen) (sym c.state.view_is) c.requires.room)

pub take_seen-requires-clause-room : goal.take_seen-requires-clause-room
take_seen-requires-clause-room g c =
    full_room g.N.LaneSession.names c.state.inside.at.lane c.state.inside.at.place c.in-Some.note c.state.inside.pen
    c.see_next.new.pen c.in-Some.ensures.seen
    (subst (λ (s : LaneView). HasTurnRoom g.N.LaneSession.names s.pen) (sym c.state.view_is) c.requires.room)

pub take_seen-requires-clause-seen : goal.take_seen-requires-clause-seen
take_seen-requires-clause-seen g c =
    subst (λ (pen : PenView).
    HasGone (looks_full c.state.inside.at.lane c.state.inside.at.place c.in-Some.note) pen c.see_next.new.pen)
    (ap (λ (s : LaneView). s.pen) c.state.view_is ∙ sym c.requires.start) c.in-Some.ensures.seen

pub pass_seen-requires-clause-room : goal.pass_seen-requires-clause-room
pass_seen-requires-clause-room g c =
    empty_room g.N.LaneSession.names c.state.inside.at.lane c.state.inside.at.place c.state.inside.pen c.see_next.new.pen
    (subst (λ (s : ScriptModel).
    HasGone (looks_empty s c.state.inside.at.lane c.state.inside.at.place) c.state.inside.pen c.see_next.new.pen)
    (c.requires.map ∙ c.requires.script) c.in-None.ensures.seen)
    (subst (λ (s : LaneView). HasTurnRoom g.N.LaneSession.names s.pen) (sym c.state.view_is) c.requires.room)

pub pass_seen-requires-clause-seen : goal.pass_seen-requires-clause-seen
pass_seen-requires-clause-seen g c =
    subst (λ (pen : PenView).
    HasGone (looks_empty g.N.LaneSession.names.script c.state.inside.at.lane c.state.inside.at.place) pen
    c.see_next.new.pen)
    (ap (λ (s : LaneView). s.pen) c.state.view_is ∙ sym c.requires.start)
    (subst (λ (s : ScriptModel).
    HasGone (looks_empty s c.state.inside.at.lane c.state.inside.at.place) c.state.inside.pen c.see_next.new.pen)
    (c.requires.map ∙ c.requires.script) c.in-None.ensures.seen)

pub returns-in-Some-clause-came : goal.returns-in-Some-clause-came
returns-in-Some-clause-came g c =
    from_view g.N.LaneSession.names g.X.Reactor.faults c.take_seen.result c.state.inside.at c.state.inside.pen c.see_next.new.pen
    c.args.state.now c.take_seen.new.state c.args.proactor.now c.take_seen.new.proactor c.state.view_is
    (subst (λ (pen : PenView).
    TurnCameTo g.N.LaneSession.names g.X.Reactor.faults c.take_seen.result
    (with_pen (standing c.state.inside.at c.see_next.new.pen) pen) c.take_seen.new.state c.args.proactor.now
    c.take_seen.new.proactor) c.requires.start c.take_seen.ensures.came)

pub returns-in-None-clause-came : goal.returns-in-None-clause-came
returns-in-None-clause-came g c =
    from_view g.N.LaneSession.names g.X.Reactor.faults c.pass_seen.result c.state.inside.at c.state.inside.pen c.see_next.new.pen
    c.args.state.now c.pass_seen.new.state c.args.proactor.now c.pass_seen.new.proactor c.state.view_is
    (subst (λ (pen : PenView).
    TurnCameTo g.N.LaneSession.names g.X.Reactor.faults c.pass_seen.result
    (with_pen (standing c.state.inside.at c.see_next.new.pen) pen) c.pass_seen.new.state c.args.proactor.now
    c.pass_seen.new.proactor) c.requires.start c.pass_seen.ensures.came)
