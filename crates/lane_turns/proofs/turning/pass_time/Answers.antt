use Rattle.std.proofs.Common.{◌≡◌, [], ◌∷◌, Some, None, ap, inl, subst, ◌∙◌}
use Rattle.history_rules.specs.State.{ReactorHalf}
use Rattle.history_rules.specs.Time.{next_time}
use Rattle.proactor_core.specs.Proactor.{Follows}
use Rattle.lane_clock.specs.declared.found.Change.TheVariants as change
use Rattle.lane_logs.specs.Labels.{shows}
use Rattle.lane_turns.specs.Pens.{HasGone}
use Rattle.lane_turns.proofs.CallLemmas.{time_no_call}
use Rattle.lane_turns.proofs.PassingLemmas.{broken_keeps, broken_may, broken_passed, broken_room, moved_of, pass_fault_keeps, pass_fault_may, pass_fault_room, pass_keeps, pass_may, pass_mid, pass_turned, point_of}
use Rattle.lane_turns.proofs.turning.pass_time.Goals as goal

pub draw-requires-clause-room : goal.draw-requires-clause-room
draw-requires-clause-room g c =
    pass_may g.N.LaneSession.names g.X.Reactor.state g.X.Reactor.told g.X.Reactor.faults g.N.LaneSession.faults
    c.args.pen.now c.args.proactor.now c.requires.works c.requires.keeps c.requires.room c.requires.pending c.in-Ok.point c.in-Ok.ensures.next

pub tell_all-requires-clause-turn : goal.tell_all-requires-clause-turn
tell_all-requires-clause-turn g c =
    pass_mid g.N.LaneSession.names g.X.Reactor.state g.X.Reactor.told g.X.Reactor.faults g.N.LaneSession.faults
    c.args.pen.now c.args.proactor.now c.requires.works c.requires.keeps c.requires.room c.requires.pending
    c.in-Ok.point c.in-Ok.ensures.next c.draw.result c.draw.new.self
    (subst (λ e. HasGone (shows e change.Same c.draw.result ∷ []) c.args.pen.now c.draw.new.self)
    c.point_event.ensures c.draw.ensures) c.tick.new.self
    c.tick.ensures.script c.tick.ensures.tells c.tick.ensures.up c.in-Ok.ensures.state c.in-Ok.ensures.sound c.in-Ok.ensures.follows

pub draw-requires-in-Some-clause-room : goal.draw-requires-in-Some-clause-room
draw-requires-in-Some-clause-room g c =
    pass_may g.N.LaneSession.names g.X.Reactor.state g.X.Reactor.told g.X.Reactor.faults g.N.LaneSession.faults
    c.args.pen.now c.args.proactor.now c.requires.works c.requires.keeps c.requires.room c.requires.pending c.in-Some.point (point_of c.in-Err.fault.moved c.in-Some.point
    (λ point. (half : ReactorHalf) → Follows g.X.Reactor.told c.args.proactor.now half →
    next_time c.args.proactor.now.script half ≡ point) c.in-Some.is c.in-Err.ensures.to_next)

pub draw_fault-requires-clause-room : goal.draw_fault-requires-clause-room
draw_fault-requires-clause-room g c =
    broken_may g.N.LaneSession.names g.X.Reactor.state g.X.Reactor.told g.X.Reactor.faults g.N.LaneSession.faults
    c.args.pen.now c.args.proactor.now c.requires.works c.requires.keeps c.requires.room c.requires.pending
    c.in-Some.point (point_of c.in-Err.fault.moved c.in-Some.point
    (λ point. (half : ReactorHalf) → Follows g.X.Reactor.told c.args.proactor.now half →
    next_time c.args.proactor.now.script half ≡ point) c.in-Some.is c.in-Err.ensures.to_next) c.draw-in-Some.result c.draw-in-Some.new.self
    (subst (λ e. HasGone (shows e change.Same c.draw-in-Some.result ∷ []) c.args.pen.now c.draw-in-Some.new.self)
    c.point_event-in-Some.ensures c.draw-in-Some.ensures) c.tick.new.self
    c.tick.ensures.script c.tick.ensures.tells c.tick.ensures.up (moved_of c.in-Err.fault.moved (Some c.in-Some.point)
    (g.X.Reactor.state c.args.proactor.now.reactor) (g.X.Reactor.state c.tick.new.self.reactor) c.in-Some.is
    c.in-Err.ensures.moved)

pub draw_fault-requires-in-None-clause-room : goal.draw_fault-requires-in-None-clause-room
draw_fault-requires-in-None-clause-room g c =
    pass_fault_may g.N.LaneSession.names g.X.Reactor.state g.X.Reactor.told g.X.Reactor.faults g.N.LaneSession.faults
    c.args.pen.now c.args.proactor.now c.requires.works c.requires.keeps c.requires.room c.requires.pending

pub returns-in-Ok-clause-passed : goal.returns-in-Ok-clause-passed
returns-in-Ok-clause-passed g c _ =
    pass_turned g.N.LaneSession.names g.X.Reactor.state g.X.Reactor.told g.X.Reactor.faults g.N.LaneSession.faults
    c.args.pen.now c.args.proactor.now c.requires.works c.requires.keeps c.requires.room c.requires.pending
    c.in-Ok.point c.in-Ok.ensures.next c.draw.result c.draw.new.self
    (subst (λ e. HasGone (shows e change.Same c.draw.result ∷ []) c.args.pen.now c.draw.new.self)
    c.point_event.ensures c.draw.ensures) c.tick.new.self
    c.tick.ensures.script c.tick.ensures.tells c.tick.ensures.up c.in-Ok.ensures.state
    c.tell_all.new.pen c.tell_all.ensures.told c.tell_all.new.proactor c.tell_all.ensures.turn c.tell_all.ensures.whole

pub returns-in-Ok-clause-keeps : goal.returns-in-Ok-clause-keeps
returns-in-Ok-clause-keeps g c =
    pass_keeps g.N.LaneSession.names g.X.Reactor.state g.X.Reactor.told g.X.Reactor.faults g.N.LaneSession.faults
    c.args.pen.now c.args.proactor.now c.requires.works c.requires.keeps c.requires.room c.requires.pending
    c.in-Ok.point c.in-Ok.ensures.next c.draw.result c.draw.new.self
    (subst (λ e. HasGone (shows e change.Same c.draw.result ∷ []) c.args.pen.now c.draw.new.self)
    c.point_event.ensures c.draw.ensures) c.tick.new.self
    c.tick.ensures.script c.tick.ensures.tells c.tick.ensures.up c.in-Ok.ensures.state
    c.tell_all.new.pen c.tell_all.ensures.told c.tell_all.new.proactor c.tell_all.ensures.turn c.tell_all.ensures.whole
    (ap g.X.Reactor.faults c.tell_all.ensures.reactor ∙ c.in-Ok.ensures.counted)

pub returns-in-Some-clause-keeps : goal.returns-in-Some-clause-keeps
returns-in-Some-clause-keeps g c =
    broken_keeps g.N.LaneSession.names g.X.Reactor.state g.X.Reactor.told g.X.Reactor.faults g.N.LaneSession.faults
    c.args.pen.now c.args.proactor.now c.requires.works c.requires.keeps c.requires.room c.requires.pending
    c.in-Some.point (point_of c.in-Err.fault.moved c.in-Some.point
    (λ point. (half : ReactorHalf) → Follows g.X.Reactor.told c.args.proactor.now half →
    next_time c.args.proactor.now.script half ≡ point) c.in-Some.is c.in-Err.ensures.to_next) c.draw-in-Some.result c.draw-in-Some.new.self
    (subst (λ e. HasGone (shows e change.Same c.draw-in-Some.result ∷ []) c.args.pen.now c.draw-in-Some.new.self)
    c.point_event-in-Some.ensures c.draw-in-Some.ensures) c.tick.new.self
    c.tick.ensures.script c.tick.ensures.tells c.tick.ensures.up (moved_of c.in-Err.fault.moved (Some c.in-Some.point)
    (g.X.Reactor.state c.args.proactor.now.reactor) (g.X.Reactor.state c.tick.new.self.reactor) c.in-Some.is
    c.in-Err.ensures.moved)
    c.draw_fault.result c.draw_fault.new.pen c.draw_fault.ensures c.in-Err.ensures.failed c.tick.ensures.later
    c.in-Err.ensures.rose

pub returns-in-Some-clause-room : goal.returns-in-Some-clause-room
returns-in-Some-clause-room g c =
    broken_room g.N.LaneSession.names g.X.Reactor.state g.X.Reactor.told g.X.Reactor.faults g.N.LaneSession.faults
    c.args.pen.now c.args.proactor.now c.requires.works c.requires.keeps c.requires.room c.requires.pending
    c.in-Some.point (point_of c.in-Err.fault.moved c.in-Some.point
    (λ point. (half : ReactorHalf) → Follows g.X.Reactor.told c.args.proactor.now half →
    next_time c.args.proactor.now.script half ≡ point) c.in-Some.is c.in-Err.ensures.to_next) c.draw-in-Some.result c.draw-in-Some.new.self
    (subst (λ e. HasGone (shows e change.Same c.draw-in-Some.result ∷ []) c.args.pen.now c.draw-in-Some.new.self)
    c.point_event-in-Some.ensures c.draw-in-Some.ensures) c.tick.new.self
    c.tick.ensures.script c.tick.ensures.tells c.tick.ensures.up (moved_of c.in-Err.fault.moved (Some c.in-Some.point)
    (g.X.Reactor.state c.args.proactor.now.reactor) (g.X.Reactor.state c.tick.new.self.reactor) c.in-Some.is
    c.in-Err.ensures.moved)
    c.draw_fault.result c.draw_fault.new.pen c.draw_fault.ensures

pub returns-in-Some-clause-failed : goal.returns-in-Some-clause-failed
returns-in-Some-clause-failed g c _ =
    inl (broken_passed g.N.LaneSession.names g.X.Reactor.state g.X.Reactor.told g.X.Reactor.faults g.N.LaneSession.faults
    c.args.pen.now c.args.proactor.now c.requires.works c.requires.keeps c.requires.room c.requires.pending
    c.in-Some.point (point_of c.in-Err.fault.moved c.in-Some.point
    (λ point. (half : ReactorHalf) → Follows g.X.Reactor.told c.args.proactor.now half →
    next_time c.args.proactor.now.script half ≡ point) c.in-Some.is c.in-Err.ensures.to_next) c.draw-in-Some.result c.draw-in-Some.new.self
    (subst (λ e. HasGone (shows e change.Same c.draw-in-Some.result ∷ []) c.args.pen.now c.draw-in-Some.new.self)
    c.point_event-in-Some.ensures c.draw-in-Some.ensures) c.tick.new.self
    c.tick.ensures.script c.tick.ensures.tells c.tick.ensures.up (moved_of c.in-Err.fault.moved (Some c.in-Some.point)
    (g.X.Reactor.state c.args.proactor.now.reactor) (g.X.Reactor.state c.tick.new.self.reactor) c.in-Some.is
    c.in-Err.ensures.moved)
    c.draw_fault.result c.draw_fault.new.pen c.draw_fault.ensures)

pub returns-in-None-clause-keeps : goal.returns-in-None-clause-keeps
returns-in-None-clause-keeps g c =
    pass_fault_keeps g.N.LaneSession.names g.X.Reactor.state g.X.Reactor.told g.X.Reactor.faults g.N.LaneSession.faults
    c.args.pen.now c.args.proactor.now c.requires.works c.requires.keeps c.requires.room c.requires.pending
    c.draw_fault-in-None.result c.draw_fault-in-None.new.pen c.draw_fault-in-None.ensures c.tick.new.self
    c.tick.ensures.script c.tick.ensures.tells c.tick.ensures.up (moved_of c.in-Err.fault.moved None
    (g.X.Reactor.state c.args.proactor.now.reactor) (g.X.Reactor.state c.tick.new.self.reactor) c.in-None.is
    c.in-Err.ensures.moved) c.in-Err.ensures.failed c.tick.ensures.later c.in-Err.ensures.rose

pub returns-in-None-clause-room : goal.returns-in-None-clause-room
returns-in-None-clause-room g c =
    pass_fault_room g.N.LaneSession.names g.X.Reactor.state g.X.Reactor.told g.X.Reactor.faults g.N.LaneSession.faults
    c.args.pen.now c.args.proactor.now c.requires.works c.requires.keeps c.requires.room c.requires.pending
    c.draw_fault-in-None.result c.draw_fault-in-None.new.pen c.draw_fault-in-None.ensures

pub draw-requires-clause-other : goal.draw-requires-clause-other
draw-requires-clause-other g c = time_no_call c.in-Ok.point c.point_event.result c.point_event.ensures

pub draw-requires-in-Some-clause-other : goal.draw-requires-in-Some-clause-other
draw-requires-in-Some-clause-other g c =
    time_no_call c.in-Some.point c.point_event-in-Some.result c.point_event-in-Some.ensures
