use Rattle.std.proofs.Common.{false, true, inl, not, subst, sym}
use Rattle.asio_types.specs.declared.event.Event.TheVariants as event
use Rattle.lane_logs.specs.Parts.{looks_full}
use Rattle.lane_logs.specs.ReactorTurns.{take_change}
use Rattle.lane_turns.specs.Batons.{LaneView}
use Rattle.lane_turns.specs.Pens.{HasGone}
use Rattle.lane_turns.specs.Polling.{with_pen}
use Rattle.lane_turns.specs.ReactorPolling.{TurnedNext}
use Rattle.lane_turns.specs.Turning.{HasTurned, HasTurnRoom, KeepsTurns, log_half}
use Rattle.lane_turns.proofs.PollingLemmas.{standing}
use Rattle.lane_turns.proofs.ReactorPollingLemmas.{half_works, loaded_room, request_is, taken_next}
use Rattle.lane_turns.proofs.reactor_polling.take_seen.Goals as goal

pub returns-then-found-state-clause-room : goal.returns-then-found-state-clause-room
returns-then-found-state-clause-room g c =
    loaded_room g.N.LaneSession.names c.load-found.result c.state.inside.pen c.load-found.new.self c.load-found.ensures.gone
    (subst (λ (s : LaneView). HasTurnRoom g.N.LaneSession.names s.pen) (sym c.state.view_is) c.requires.room)

pub take_request-requires-clause-room : goal.take_request-requires-clause-room
take_request-requires-clause-room g c =
    loaded_room g.N.LaneSession.names c.load-found.result c.state.inside.pen c.load-found.new.self c.load-found.ensures.gone
    (subst (λ (s : LaneView). HasTurnRoom g.N.LaneSession.names s.pen) (sym c.state.view_is) c.requires.room)

pub returns-clause-came : goal.returns-clause-came
returns-clause-came g c = (
  (subst (λ (s : LaneView).
      TurnedNext g.N.LaneSession.names false (with_pen s g.S.PenStart.start)
      (standing c.one_place_on-state-inside.result c.take_request.new.pen)) c.state.view_is
      (taken_next g.N.LaneSession.names c.state.inside.at c.args.note g.S.PenStart.start c.state.inside.pen
      (subst (λ (s : LaneView). HasGone (looks_full s.lane s.place c.args.note) g.S.PenStart.start s.pen)
      (sym c.state.view_is) c.requires.seen)
      (half_works g.N.LaneSession.names g.X.Reactor.state g.X.Reactor.told g.X.Reactor.faults g.N.LaneSession.faults
      (log_half g.N.LaneSession.names c.state.inside.pen.log) c.args.proactor.now (subst (λ (s : LaneView).
      KeepsTurns g.N.LaneSession.names g.X.Reactor.state g.X.Reactor.told g.X.Reactor.faults g.N.LaneSession.faults
      (log_half g.N.LaneSession.names s.pen.log) c.args.proactor.now) (sym c.state.view_is) c.requires.keeps)
      c.requires.works)
      (request_is g.N.LaneSession.names g.X.Reactor.state g.X.Reactor.told g.X.Reactor.faults g.N.LaneSession.faults
      (log_half g.N.LaneSession.names c.state.inside.pen.log) c.args.proactor.now (subst (λ (s : LaneView).
      KeepsTurns g.N.LaneSession.names g.X.Reactor.state g.X.Reactor.told g.X.Reactor.faults g.N.LaneSession.faults
      (log_half g.N.LaneSession.names s.pen.log) c.args.proactor.now) (sym c.state.view_is) c.requires.keeps)
      c.requires.works c.args.script.now c.args.note.op c.may_take.result c.requires.script c.may_take.ensures
      c.if-not-may_take.false)
      c.load-found.result c.load-found.new.self c.load-found.ensures.gone c.one_place_on-state-inside.result c.take_request.new.pen
      false c.one_place_on-state-inside.ensures c.if-found-state.false
      (subst (λ b.
      HasTurned g.N.LaneSession.names (event.Take c.args.note.op)
      (take_change g.N.LaneSession.names.script (log_half g.N.LaneSession.names c.load-found.new.self.log) c.args.note.op) (not b)
      c.load-found.new.self c.take_request.new.pen) c.if-not-take_request.false c.take_request.ensures.turned))),
  c.take_request.ensures.stood c.if-not-take_request.false,
)

pub returns-then-not-take_request-clause-came : goal.returns-then-not-take_request-clause-came
returns-then-not-take_request-clause-came g c = (
  inl (subst (λ (s : LaneView).
      TurnedNext g.N.LaneSession.names true (with_pen s g.S.PenStart.start)
      (standing c.one_place_on-state-inside.result c.take_request.new.pen)) c.state.view_is
      (taken_next g.N.LaneSession.names c.state.inside.at c.args.note g.S.PenStart.start c.state.inside.pen
      (subst (λ (s : LaneView). HasGone (looks_full s.lane s.place c.args.note) g.S.PenStart.start s.pen)
      (sym c.state.view_is) c.requires.seen)
      (half_works g.N.LaneSession.names g.X.Reactor.state g.X.Reactor.told g.X.Reactor.faults g.N.LaneSession.faults
      (log_half g.N.LaneSession.names c.state.inside.pen.log) c.args.proactor.now (subst (λ (s : LaneView).
      KeepsTurns g.N.LaneSession.names g.X.Reactor.state g.X.Reactor.told g.X.Reactor.faults g.N.LaneSession.faults
      (log_half g.N.LaneSession.names s.pen.log) c.args.proactor.now) (sym c.state.view_is) c.requires.keeps)
      c.requires.works)
      (request_is g.N.LaneSession.names g.X.Reactor.state g.X.Reactor.told g.X.Reactor.faults g.N.LaneSession.faults
      (log_half g.N.LaneSession.names c.state.inside.pen.log) c.args.proactor.now (subst (λ (s : LaneView).
      KeepsTurns g.N.LaneSession.names g.X.Reactor.state g.X.Reactor.told g.X.Reactor.faults g.N.LaneSession.faults
      (log_half g.N.LaneSession.names s.pen.log) c.args.proactor.now) (sym c.state.view_is) c.requires.keeps)
      c.requires.works c.args.script.now c.args.note.op c.may_take.result c.requires.script c.may_take.ensures
      c.if-not-may_take.false)
      c.load-found.result c.load-found.new.self c.load-found.ensures.gone c.one_place_on-state-inside.result c.take_request.new.pen
      true c.one_place_on-state-inside.ensures c.if-found-state.false
      (subst (λ b.
      HasTurned g.N.LaneSession.names (event.Take c.args.note.op)
      (take_change g.N.LaneSession.names.script (log_half g.N.LaneSession.names c.load-found.new.self.log) c.args.note.op) (not b)
      c.load-found.new.self c.take_request.new.pen) c.if-not-take_request.true c.take_request.ensures.turned))),
  c.take_request.ensures.rose c.if-not-take_request.true,
)
