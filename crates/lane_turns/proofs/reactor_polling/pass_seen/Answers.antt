use Rattle.std.proofs.Common.{◌⊎◌, false, true, inl, inr, refl, subst, sym, ◌∙◌}
use Rattle.session_script.specs.WellFormed.{IsWellFormed}
use Rattle.lane_logs.specs.Parts.{looks_empty}
use Rattle.lane_turns.specs.Batons.{LaneView}
use Rattle.lane_turns.specs.Pens.{HasGone}
use Rattle.lane_turns.specs.Polling.{with_pen}
use Rattle.lane_turns.specs.ReactorPolling.{FailedNext, FoundOtherWork, LeftTime, TurnedNext}
use Rattle.lane_turns.specs.Turning.{HasTurnRoom, KeepsTurns, log_half}
use Rattle.lane_turns.proofs.PollingLemmas.{standing}
use Rattle.lane_turns.proofs.ReactorPollingLemmas.{broke_next, few_pending, found_work, guards_few, half_works, idle_is, left_time, loaded_room, passed_next, waits_is}
use Rattle.lane_turns.proofs.reactor_polling.pass_seen.Goals as goal

pub returns-then-load-state-clause-room : goal.returns-then-load-state-clause-room
returns-then-load-state-clause-room g c =
    loaded_room g.N.LaneSession.names c.load-load.result c.state.inside.pen c.load-load.new.self c.load-load.ensures.gone
    (subst (λ (s : LaneView). HasTurnRoom g.N.LaneSession.names s.pen) (sym c.state.view_is) c.requires.room)

pub returns-then-load-idle_work-clause-room : goal.returns-then-load-idle_work-clause-room
returns-then-load-idle_work-clause-room g c =
    loaded_room g.N.LaneSession.names c.load-load.result c.state.inside.pen c.load-load.new.self c.load-load.ensures.gone
    (subst (λ (s : LaneView). HasTurnRoom g.N.LaneSession.names s.pen) (sym c.state.view_is) c.requires.room)

pub pass_time-requires-clause-room : goal.pass_time-requires-clause-room
pass_time-requires-clause-room g c =
    loaded_room g.N.LaneSession.names c.load-load.result c.state.inside.pen c.load-load.new.self c.load-load.ensures.gone
    (subst (λ (s : LaneView). HasTurnRoom g.N.LaneSession.names s.pen) (sym c.state.view_is) c.requires.room)

pub idle_work-requires : goal.idle_work-requires
idle_work-requires g c =
    guards_few g.N.LaneSession.names g.X.Reactor.state g.X.Reactor.told g.X.Reactor.faults g.N.LaneSession.faults
    (log_half g.N.LaneSession.names c.state.inside.pen.log) c.args.proactor.now (subst (λ (s : LaneView).
    KeepsTurns g.N.LaneSession.names g.X.Reactor.state g.X.Reactor.told g.X.Reactor.faults g.N.LaneSession.faults
    (log_half g.N.LaneSession.names s.pen.log) c.args.proactor.now) (sym c.state.view_is) c.requires.keeps)
    c.requires.works (subst IsWellFormed c.requires.script c.scripts_are_well_formed.ensures)

pub returns-then-load-state-clause-came : goal.returns-then-load-state-clause-came
returns-then-load-state-clause-came g c = (
  inr (inl (subst (λ (s : LaneView).
      LeftTime g.N.LaneSession.names (with_pen s g.S.PenStart.start) (standing c.state.inside.at c.load-load.new.self)) c.state.view_is
      (left_time g.N.LaneSession.names c.state.inside.at g.S.PenStart.start c.state.inside.pen
      (subst (λ (s : LaneView). HasGone (looks_empty g.N.LaneSession.names.script s.lane s.place) g.S.PenStart.start s.pen)
      (sym c.state.view_is) c.requires.seen)
      (half_works g.N.LaneSession.names g.X.Reactor.state g.X.Reactor.told g.X.Reactor.faults g.N.LaneSession.faults
      (log_half g.N.LaneSession.names c.state.inside.pen.log) c.args.proactor.now (subst (λ (s : LaneView).
      KeepsTurns g.N.LaneSession.names g.X.Reactor.state g.X.Reactor.told g.X.Reactor.faults g.N.LaneSession.faults
      (log_half g.N.LaneSession.names s.pen.log) c.args.proactor.now) (sym c.state.view_is) c.requires.keeps)
      c.requires.works)
      (waits_is g.N.LaneSession.names g.X.Reactor.state g.X.Reactor.told g.X.Reactor.faults g.N.LaneSession.faults
      (log_half g.N.LaneSession.names c.state.inside.pen.log) c.args.proactor.now (subst (λ (s : LaneView).
      KeepsTurns g.N.LaneSession.names g.X.Reactor.state g.X.Reactor.told g.X.Reactor.faults g.N.LaneSession.faults
      (log_half g.N.LaneSession.names s.pen.log) c.args.proactor.now) (sym c.state.view_is) c.requires.keeps)
      c.requires.works c.state.inside.at.running c.may_wait.result c.may_wait.ensures c.if-not-may_wait.false).0
      (waits_is g.N.LaneSession.names g.X.Reactor.state g.X.Reactor.told g.X.Reactor.faults g.N.LaneSession.faults
      (log_half g.N.LaneSession.names c.state.inside.pen.log) c.args.proactor.now (subst (λ (s : LaneView).
      KeepsTurns g.N.LaneSession.names g.X.Reactor.state g.X.Reactor.told g.X.Reactor.faults g.N.LaneSession.faults
      (log_half g.N.LaneSession.names s.pen.log) c.args.proactor.now) (sym c.state.view_is) c.requires.keeps)
      c.requires.works c.state.inside.at.running c.may_wait.result c.may_wait.ensures c.if-not-may_wait.false).1
      c.load-load.result c.load-load.new.self c.load-load.ensures.gone (λ same. absurd (c.if-load-state.true same))))),
  refl,
)

pub returns-then-load-idle_work-clause-came : goal.returns-then-load-idle_work-clause-came
returns-then-load-idle_work-clause-came g c = (
  inr (subst (λ (s : LaneView).
      FoundOtherWork g.N.LaneSession.names (with_pen s g.S.PenStart.start) (standing c.state.inside.at c.load-load.new.self)) c.state.view_is
      (found_work g.N.LaneSession.names c.state.inside.at g.S.PenStart.start c.state.inside.pen
      (subst (λ (s : LaneView). HasGone (looks_empty g.N.LaneSession.names.script s.lane s.place) g.S.PenStart.start s.pen)
      (sym c.state.view_is) c.requires.seen)
      (half_works g.N.LaneSession.names g.X.Reactor.state g.X.Reactor.told g.X.Reactor.faults g.N.LaneSession.faults
      (log_half g.N.LaneSession.names c.state.inside.pen.log) c.args.proactor.now (subst (λ (s : LaneView).
      KeepsTurns g.N.LaneSession.names g.X.Reactor.state g.X.Reactor.told g.X.Reactor.faults g.N.LaneSession.faults
      (log_half g.N.LaneSession.names s.pen.log) c.args.proactor.now) (sym c.state.view_is) c.requires.keeps)
      c.requires.works)
      (waits_is g.N.LaneSession.names g.X.Reactor.state g.X.Reactor.told g.X.Reactor.faults g.N.LaneSession.faults
      (log_half g.N.LaneSession.names c.state.inside.pen.log) c.args.proactor.now (subst (λ (s : LaneView).
      KeepsTurns g.N.LaneSession.names g.X.Reactor.state g.X.Reactor.told g.X.Reactor.faults g.N.LaneSession.faults
      (log_half g.N.LaneSession.names s.pen.log) c.args.proactor.now) (sym c.state.view_is) c.requires.keeps)
      c.requires.works c.state.inside.at.running c.may_wait.result c.may_wait.ensures c.if-not-may_wait.false).0
      (waits_is g.N.LaneSession.names g.X.Reactor.state g.X.Reactor.told g.X.Reactor.faults g.N.LaneSession.faults
      (log_half g.N.LaneSession.names c.state.inside.pen.log) c.args.proactor.now (subst (λ (s : LaneView).
      KeepsTurns g.N.LaneSession.names g.X.Reactor.state g.X.Reactor.told g.X.Reactor.faults g.N.LaneSession.faults
      (log_half g.N.LaneSession.names s.pen.log) c.args.proactor.now) (sym c.state.view_is) c.requires.keeps)
      c.requires.works c.state.inside.at.running c.may_wait.result c.may_wait.ensures c.if-not-may_wait.false).1
      c.load-load.result c.load-load.new.self c.load-load.ensures.gone c.if-load-state.false
      (λ same. c.if-load-idle_work.true (same ∙ sym (idle_is g.N.LaneSession.names g.X.Reactor.state g.X.Reactor.told g.X.Reactor.faults g.N.LaneSession.faults
      (log_half g.N.LaneSession.names c.state.inside.pen.log) c.args.proactor.now (subst (λ (s : LaneView).
      KeepsTurns g.N.LaneSession.names g.X.Reactor.state g.X.Reactor.told g.X.Reactor.faults g.N.LaneSession.faults
      (log_half g.N.LaneSession.names s.pen.log) c.args.proactor.now) (sym c.state.view_is) c.requires.keeps)
      c.requires.works c.idle_work.result c.idle_work.ensures
      (few_pending g.N.LaneSession.names c.state.inside.pen (subst (λ (s : LaneView). HasTurnRoom g.N.LaneSession.names s.pen) (sym c.state.view_is) c.requires.room))))))),
  refl,
)

pub returns-clause-came : goal.returns-clause-came
returns-clause-came g c = (
  subst (λ (s : LaneView).
      TurnedNext g.N.LaneSession.names false (with_pen s g.S.PenStart.start) (standing c.state.inside.at c.pass_time.new.pen)) c.state.view_is
      (passed_next g.N.LaneSession.names c.state.inside.at g.S.PenStart.start c.state.inside.pen
      (subst (λ (s : LaneView). HasGone (looks_empty g.N.LaneSession.names.script s.lane s.place) g.S.PenStart.start s.pen)
      (sym c.state.view_is) c.requires.seen)
      (half_works g.N.LaneSession.names g.X.Reactor.state g.X.Reactor.told g.X.Reactor.faults g.N.LaneSession.faults
      (log_half g.N.LaneSession.names c.state.inside.pen.log) c.args.proactor.now (subst (λ (s : LaneView).
      KeepsTurns g.N.LaneSession.names g.X.Reactor.state g.X.Reactor.told g.X.Reactor.faults g.N.LaneSession.faults
      (log_half g.N.LaneSession.names s.pen.log) c.args.proactor.now) (sym c.state.view_is) c.requires.keeps)
      c.requires.works)
      (waits_is g.N.LaneSession.names g.X.Reactor.state g.X.Reactor.told g.X.Reactor.faults g.N.LaneSession.faults
      (log_half g.N.LaneSession.names c.state.inside.pen.log) c.args.proactor.now (subst (λ (s : LaneView).
      KeepsTurns g.N.LaneSession.names g.X.Reactor.state g.X.Reactor.told g.X.Reactor.faults g.N.LaneSession.faults
      (log_half g.N.LaneSession.names s.pen.log) c.args.proactor.now) (sym c.state.view_is) c.requires.keeps)
      c.requires.works c.state.inside.at.running c.may_wait.result c.may_wait.ensures c.if-not-may_wait.false).0
      (waits_is g.N.LaneSession.names g.X.Reactor.state g.X.Reactor.told g.X.Reactor.faults g.N.LaneSession.faults
      (log_half g.N.LaneSession.names c.state.inside.pen.log) c.args.proactor.now (subst (λ (s : LaneView).
      KeepsTurns g.N.LaneSession.names g.X.Reactor.state g.X.Reactor.told g.X.Reactor.faults g.N.LaneSession.faults
      (log_half g.N.LaneSession.names s.pen.log) c.args.proactor.now) (sym c.state.view_is) c.requires.keeps)
      c.requires.works c.state.inside.at.running c.may_wait.result c.may_wait.ensures c.if-not-may_wait.false).1
      c.load-load.result c.load-load.new.self c.load-load.ensures.gone c.if-load-state.false (c.if-load-idle_work.false ∙ (idle_is g.N.LaneSession.names g.X.Reactor.state g.X.Reactor.told g.X.Reactor.faults g.N.LaneSession.faults
      (log_half g.N.LaneSession.names c.state.inside.pen.log) c.args.proactor.now (subst (λ (s : LaneView).
      KeepsTurns g.N.LaneSession.names g.X.Reactor.state g.X.Reactor.told g.X.Reactor.faults g.N.LaneSession.faults
      (log_half g.N.LaneSession.names s.pen.log) c.args.proactor.now) (sym c.state.view_is) c.requires.keeps)
      c.requires.works c.idle_work.result c.idle_work.ensures
      (few_pending g.N.LaneSession.names c.state.inside.pen (subst (λ (s : LaneView). HasTurnRoom g.N.LaneSession.names s.pen) (sym c.state.view_is) c.requires.room))))
      c.pass_time.new.pen false (c.pass_time.ensures.passed c.if-not-pass_time.false)),
  c.pass_time.ensures.stood c.if-not-pass_time.false,
)

pub returns-then-not-pass_time-clause-came : goal.returns-then-not-pass_time-clause-came
returns-then-not-pass_time-clause-came g c = (
  subst (λ (s : LaneView).
      TurnedNext g.N.LaneSession.names true (with_pen s g.S.PenStart.start) (standing c.state.inside.at c.pass_time.new.pen)
      ⊎ FailedNext g.N.LaneSession.names (with_pen s g.S.PenStart.start) (standing c.state.inside.at c.pass_time.new.pen)) c.state.view_is
      (broke_next g.N.LaneSession.names c.state.inside.at g.S.PenStart.start c.state.inside.pen
      (subst (λ (s : LaneView). HasGone (looks_empty g.N.LaneSession.names.script s.lane s.place) g.S.PenStart.start s.pen)
      (sym c.state.view_is) c.requires.seen)
      (half_works g.N.LaneSession.names g.X.Reactor.state g.X.Reactor.told g.X.Reactor.faults g.N.LaneSession.faults
      (log_half g.N.LaneSession.names c.state.inside.pen.log) c.args.proactor.now (subst (λ (s : LaneView).
      KeepsTurns g.N.LaneSession.names g.X.Reactor.state g.X.Reactor.told g.X.Reactor.faults g.N.LaneSession.faults
      (log_half g.N.LaneSession.names s.pen.log) c.args.proactor.now) (sym c.state.view_is) c.requires.keeps)
      c.requires.works)
      (waits_is g.N.LaneSession.names g.X.Reactor.state g.X.Reactor.told g.X.Reactor.faults g.N.LaneSession.faults
      (log_half g.N.LaneSession.names c.state.inside.pen.log) c.args.proactor.now (subst (λ (s : LaneView).
      KeepsTurns g.N.LaneSession.names g.X.Reactor.state g.X.Reactor.told g.X.Reactor.faults g.N.LaneSession.faults
      (log_half g.N.LaneSession.names s.pen.log) c.args.proactor.now) (sym c.state.view_is) c.requires.keeps)
      c.requires.works c.state.inside.at.running c.may_wait.result c.may_wait.ensures c.if-not-may_wait.false).0
      (waits_is g.N.LaneSession.names g.X.Reactor.state g.X.Reactor.told g.X.Reactor.faults g.N.LaneSession.faults
      (log_half g.N.LaneSession.names c.state.inside.pen.log) c.args.proactor.now (subst (λ (s : LaneView).
      KeepsTurns g.N.LaneSession.names g.X.Reactor.state g.X.Reactor.told g.X.Reactor.faults g.N.LaneSession.faults
      (log_half g.N.LaneSession.names s.pen.log) c.args.proactor.now) (sym c.state.view_is) c.requires.keeps)
      c.requires.works c.state.inside.at.running c.may_wait.result c.may_wait.ensures c.if-not-may_wait.false).1
      c.load-load.result c.load-load.new.self c.load-load.ensures.gone c.if-load-state.false (c.if-load-idle_work.false ∙ (idle_is g.N.LaneSession.names g.X.Reactor.state g.X.Reactor.told g.X.Reactor.faults g.N.LaneSession.faults
      (log_half g.N.LaneSession.names c.state.inside.pen.log) c.args.proactor.now (subst (λ (s : LaneView).
      KeepsTurns g.N.LaneSession.names g.X.Reactor.state g.X.Reactor.told g.X.Reactor.faults g.N.LaneSession.faults
      (log_half g.N.LaneSession.names s.pen.log) c.args.proactor.now) (sym c.state.view_is) c.requires.keeps)
      c.requires.works c.idle_work.result c.idle_work.ensures
      (few_pending g.N.LaneSession.names c.state.inside.pen (subst (λ (s : LaneView). HasTurnRoom g.N.LaneSession.names s.pen) (sym c.state.view_is) c.requires.room))))
      c.pass_time.new.pen (c.pass_time.ensures.failed c.if-not-pass_time.true)),
  c.pass_time.ensures.rose c.if-not-pass_time.true,
)
