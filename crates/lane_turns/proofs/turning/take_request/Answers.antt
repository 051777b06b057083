use Rattle.std.proofs.Common.{ap, subst, sym, ◌∙◌, arith, length}
use Rattle.session_script.specs.Script.{ScriptModel, act_of}
use Rattle.session_script.specs.WellFormed.{IsWellFormed}
use Rattle.lane_logs.proofs.RequestLemmas.{request_within}
use Rattle.lane_turns.specs.Turning.{log_half}
use Rattle.lane_turns.proofs.TakingLemmas.{change_is, take_fault_keeps, take_fault_may, take_fault_room, take_fault_turned, take_keeps, take_may, take_mid, take_turned, untaken_now}
use Rattle.lane_turns.proofs.turning.take_request.Goals as goal

pub act-act-requires : goal.act-act-requires
act-act-requires g c =
    omega (
      arith,
      request_within g.N.LaneSession.names.script (log_half g.N.LaneSession.names c.args.pen.now.log) c.args.a
          c.requires.request,
      ap (λ (s : ScriptModel). length s.acts) c.requires.script,
    )

pub take-requires-clause-untaken : goal.take-requires-clause-untaken
take-requires-clause-untaken g c =
    untaken_now g.N.LaneSession.names g.X.Reactor.state g.X.Reactor.told g.X.Reactor.faults g.N.LaneSession.faults
    c.args.pen.now c.args.proactor.now c.requires.works c.requires.keeps c.requires.room c.args.a c.requires.request
    (subst IsWellFormed c.requires.script c.scripts_are_well_formed.ensures)

pub draw-requires-clause-room : goal.draw-requires-clause-room
draw-requires-clause-room g c =
    take_may g.N.LaneSession.names g.X.Reactor.state g.X.Reactor.told g.X.Reactor.faults g.N.LaneSession.faults
    c.args.pen.now c.args.proactor.now c.requires.works c.requires.keeps c.requires.room c.args.a c.requires.request
    (subst IsWellFormed c.requires.script c.scripts_are_well_formed.ensures)

pub draw-requires-in-Err-clause-room : goal.draw-requires-in-Err-clause-room
draw-requires-in-Err-clause-room g c =
    take_may g.N.LaneSession.names g.X.Reactor.state g.X.Reactor.told g.X.Reactor.faults g.N.LaneSession.faults
    c.args.pen.now c.args.proactor.now c.requires.works c.requires.keeps c.requires.room c.args.a c.requires.request
    (subst IsWellFormed c.requires.script c.scripts_are_well_formed.ensures)

pub tell_all-requires-clause-turn : goal.tell_all-requires-clause-turn
tell_all-requires-clause-turn g c =
    take_mid g.N.LaneSession.names g.X.Reactor.state g.X.Reactor.told g.X.Reactor.faults g.N.LaneSession.faults
    c.args.pen.now c.args.proactor.now c.requires.works c.requires.keeps c.requires.room c.args.a c.requires.request
    (subst IsWellFormed c.requires.script c.scripts_are_well_formed.ensures)
    c.take_change-change.result c.draw.result c.draw.new.self c.draw.ensures c.take.new.self
    c.take.ensures.script c.take.ensures.tells c.take.ensures.up c.take.ensures.now c.in-Ok.ensures.sound c.in-Ok.ensures.follows

pub draw_fault-requires-clause-room : goal.draw_fault-requires-clause-room
draw_fault-requires-clause-room g c =
    take_fault_may g.N.LaneSession.names g.X.Reactor.state g.X.Reactor.told g.X.Reactor.faults g.N.LaneSession.faults
    c.args.pen.now c.args.proactor.now c.requires.works c.requires.keeps c.requires.room c.args.a c.requires.request
    (subst IsWellFormed c.requires.script c.scripts_are_well_formed.ensures)
    c.take_change-change-in-Err.result c.draw-in-Err.result c.draw-in-Err.new.self c.draw-in-Err.ensures c.take.new.self
    c.take.ensures.script c.take.ensures.tells c.take.ensures.up c.take.ensures.now

pub returns-in-Ok-clause-turned : goal.returns-in-Ok-clause-turned
returns-in-Ok-clause-turned g c =
    take_turned g.N.LaneSession.names g.X.Reactor.state g.X.Reactor.told g.X.Reactor.faults g.N.LaneSession.faults
    c.args.pen.now c.args.proactor.now c.requires.works c.requires.keeps c.requires.room c.args.a c.requires.request
    (subst IsWellFormed c.requires.script c.scripts_are_well_formed.ensures)
    c.take_change-change.result c.draw.result c.draw.new.self c.draw.ensures c.take.new.self
    c.take.ensures.script c.take.ensures.tells c.take.ensures.up c.take.ensures.now
    c.tell_all.new.pen c.tell_all.ensures.told c.tell_all.new.proactor c.tell_all.ensures.turn c.tell_all.ensures.whole
    (change_is g.N.LaneSession.names g.X.Reactor.state g.X.Reactor.told g.X.Reactor.faults g.N.LaneSession.faults
    c.args.pen.now c.args.proactor.now c.requires.works c.requires.keeps c.requires.room c.args.a c.requires.request
    (subst IsWellFormed c.requires.script c.scripts_are_well_formed.ensures)
    c.act-act.result.now (ap (λ (s : ScriptModel). act_of s c.args.a) (sym c.requires.script) ∙ c.act-act.ensures)
    c.guards-before.result c.guards.result c.take.new.self.tables.guards c.guards-before.ensures.count
    c.guards-before.ensures.half c.guards.ensures.count c.take.ensures.guards c.take_change-change.result
    c.take_change-change.ensures)

pub returns-in-Ok-clause-keeps : goal.returns-in-Ok-clause-keeps
returns-in-Ok-clause-keeps g c =
    take_keeps g.N.LaneSession.names g.X.Reactor.state g.X.Reactor.told g.X.Reactor.faults g.N.LaneSession.faults
    c.args.pen.now c.args.proactor.now c.requires.works c.requires.keeps c.requires.room c.args.a c.requires.request
    (subst IsWellFormed c.requires.script c.scripts_are_well_formed.ensures)
    c.take_change-change.result c.draw.result c.draw.new.self c.draw.ensures c.take.new.self
    c.take.ensures.script c.take.ensures.tells c.take.ensures.up c.take.ensures.now
    c.tell_all.new.pen c.tell_all.ensures.told c.tell_all.new.proactor c.tell_all.ensures.turn c.tell_all.ensures.whole
    (ap g.X.Reactor.faults c.tell_all.ensures.reactor ∙ c.in-Ok.ensures.counted)

pub returns-in-Err-clause-keeps : goal.returns-in-Err-clause-keeps
returns-in-Err-clause-keeps g c =
    take_fault_keeps g.N.LaneSession.names g.X.Reactor.state g.X.Reactor.told g.X.Reactor.faults g.N.LaneSession.faults
    c.args.pen.now c.args.proactor.now c.requires.works c.requires.keeps c.requires.room c.args.a c.requires.request
    (subst IsWellFormed c.requires.script c.scripts_are_well_formed.ensures)
    c.take_change-change-in-Err.result c.draw-in-Err.result c.draw-in-Err.new.self c.draw-in-Err.ensures c.take.new.self
    c.take.ensures.script c.take.ensures.tells c.take.ensures.up c.take.ensures.now
    c.draw_fault.result c.draw_fault.new.pen c.draw_fault.ensures c.in-Err.ensures.failed c.take.ensures.later
    c.in-Err.ensures.rose

pub returns-in-Err-clause-room : goal.returns-in-Err-clause-room
returns-in-Err-clause-room g c =
    take_fault_room g.N.LaneSession.names g.X.Reactor.state g.X.Reactor.told g.X.Reactor.faults g.N.LaneSession.faults
    c.args.pen.now c.args.proactor.now c.requires.works c.requires.keeps c.requires.room c.args.a c.requires.request
    (subst IsWellFormed c.requires.script c.scripts_are_well_formed.ensures)
    c.take_change-change-in-Err.result c.draw-in-Err.result c.draw-in-Err.new.self c.draw-in-Err.ensures c.take.new.self
    c.take.ensures.script c.take.ensures.tells c.take.ensures.up c.take.ensures.now
    c.draw_fault.result c.draw_fault.new.pen c.draw_fault.ensures

pub returns-in-Err-clause-turned : goal.returns-in-Err-clause-turned
returns-in-Err-clause-turned g c =
    take_fault_turned g.N.LaneSession.names g.X.Reactor.state g.X.Reactor.told g.X.Reactor.faults g.N.LaneSession.faults
    c.args.pen.now c.args.proactor.now c.requires.works c.requires.keeps c.requires.room c.args.a c.requires.request
    (subst IsWellFormed c.requires.script c.scripts_are_well_formed.ensures)
    c.take_change-change-in-Err.result c.draw-in-Err.result c.draw-in-Err.new.self c.draw-in-Err.ensures c.take.new.self
    c.take.ensures.script c.take.ensures.tells c.take.ensures.up c.take.ensures.now
    c.draw_fault.result c.draw_fault.new.pen c.draw_fault.ensures
    (change_is g.N.LaneSession.names g.X.Reactor.state g.X.Reactor.told g.X.Reactor.faults g.N.LaneSession.faults
    c.args.pen.now c.args.proactor.now c.requires.works c.requires.keeps c.requires.room c.args.a c.requires.request
    (subst IsWellFormed c.requires.script c.scripts_are_well_formed.ensures)
    c.act-act.result.now (ap (λ (s : ScriptModel). act_of s c.args.a) (sym c.requires.script) ∙ c.act-act.ensures)
    c.guards-before.result c.guards-in-Err.result c.take.new.self.tables.guards c.guards-before.ensures.count
    c.guards-before.ensures.half c.guards-in-Err.ensures.count c.take.ensures.guards c.take_change-change-in-Err.result
    c.take_change-change-in-Err.ensures)
