use Rattle.std.proofs.Common.{◌<◌, ap, length, subst, sym, ◌∙◌, arith}
use Rattle.session_script.specs.Script.{ScriptModel, act_of}
use Rattle.history_rules.specs.Requests.{slot_in}
use Rattle.lane_map.specs.LaneNumbers.{cells_of, home_lane}
use Rattle.lane_turns.proofs.DuesLemmas.{act_known, mid_after, room_falls, room_for_one, told-none, told-one}
use Rattle.lane_turns.proofs.PenLemmas.{gone_clock}
use Rattle.reactor_turns.proofs.TurnedLemmas.{still_works, turned-none}
use Rattle.lane_turns.specs.Turning.{IsMidTurn, log_half}
use Rattle.lane_turns.proofs.telling.tell_next.Given as given
use Rattle.lane_turns.proofs.telling.tell_next.Goals as goal
use Rattle.lane_turns.proofs.telling.tell_next.Goals.{In-Some}

known : (g : given.Over) (c : In-Some g) → c.in-Some.op < length c.args.script.now.acts
known g c =
    omega (
      arith,
      act_known g.N.LaneSession.names g.X.Reactor.state g.X.Reactor.told c.args.pen.now c.args.proactor.now
          c.requires.turn c.in-Some.op c.in-Some.code c.in-Some.size c.in-Some.ensures.allowed,
      ap (λ (s : ScriptModel). length s.acts) c.requires.script,
    )

pub home-lane-requires : goal.home-lane-requires
home-lane-requires g c =
    subst (λ (s : ScriptModel). c.in-Some.op < length s.acts) (sym c.requires.map)
    (known g (goal.at.home-lane-requires g c).In-Some)

pub tell-requires-clause-home : goal.tell-requires-clause-home
tell-requires-clause-home g c =
    c.home-lane.ensures ∙ ap (λ (s : ScriptModel). home_lane s c.in-Some.op) c.requires.map

pub tell-requires-clause-lane : goal.tell-requires-clause-lane
tell-requires-clause-lane g c =
    subst (λ lane. lane < length (cells_of c.args.script.now))
    (sym (c.home-lane.ensures ∙ ap (λ (s : ScriptModel). home_lane s c.in-Some.op) c.requires.map))
    (c.lanes_have_cells.ensures.home c.in-Some.op (known g (goal.at.tell-requires-clause-lane g c).In-Some))

pub tell-requires-clause-op : goal.tell-requires-clause-op
tell-requires-clause-op g c =
    omega (arith, known g (goal.at.tell-requires-clause-op g c).In-Some, c.requires.fits.few)

pub tell-requires-clause-room : goal.tell-requires-clause-room
tell-requires-clause-room g c =
    room_for_one g.N.LaneSession.names g.X.Reactor.state g.X.Reactor.told c.args.pen.now c.args.proactor.now
    c.requires.turn c.in-Some.op c.in-Some.code c.in-Some.size c.in-Some.ensures.allowed

pub returns-in-Some-clause-turn : goal.returns-in-Some-clause-turn
returns-in-Some-clause-turn g c =
    mid_after g.N.LaneSession.names g.X.Reactor.state g.X.Reactor.told c.args.pen.now c.args.proactor.now
    c.requires.turn c.in-Some.op c.in-Some.code c.in-Some.size c.in-Some.ensures.allowed c.args.script.now
    c.requires.script c.tell.new.self c.tell.ensures c.next_due.new.self
    (ap (λ p. p.script) c.in-Some.ensures.others) (ap (λ p. p.reactor) c.in-Some.ensures.others)
    (ap (λ p. p.tables.failed) c.in-Some.ensures.others
    ∙ still_works (slot_in (act_of c.args.proactor.now.script c.in-Some.op)) c.in-Some.op
    (record c.args.proactor.now.tables { due = c.next_due.new.self.tables.due })) c.next_due.ensures.sound
    c.in-Some.ensures.follows

pub returns-in-Some-clause-clock : goal.returns-in-Some-clause-clock
returns-in-Some-clause-clock g c = gone_clock _ c.args.pen.now c.tell.new.self c.tell.ensures.gone

pub returns-in-Some-clause-told : goal.returns-in-Some-clause-told
returns-in-Some-clause-told g c =
    told-one g.N.LaneSession.names g.X.Reactor.state g.X.Reactor.told c.args.pen.now c.args.proactor.now
    c.requires.turn c.in-Some.op c.in-Some.code c.in-Some.size c.in-Some.ensures.allowed c.args.script.now
    c.requires.script c.tell.new.self c.tell.ensures

pub returns-in-Some-clause-fewer : goal.returns-in-Some-clause-fewer
returns-in-Some-clause-fewer g c _ =
    room_falls g.N.LaneSession.names g.X.Reactor.state g.X.Reactor.told c.args.pen.now c.args.proactor.now
    c.requires.turn c.in-Some.op c.in-Some.code c.in-Some.size c.in-Some.ensures.allowed c.args.script.now
    c.requires.script c.tell.new.self c.tell.ensures

pub returns-in-None-clause-told : goal.returns-in-None-clause-told
returns-in-None-clause-told g c = told-none g.N.LaneSession.names c.args.pen.now

pub returns-in-None-clause-turn : goal.returns-in-None-clause-turn
returns-in-None-clause-turn g c =
    subst (λ p. IsMidTurn g.N.LaneSession.names g.X.Reactor.state g.X.Reactor.told c.args.pen.now p)
    (sym c.in-None.ensures.unchanged) c.requires.turn

pub returns-in-None-clause-whole : goal.returns-in-None-clause-whole
returns-in-None-clause-whole g c _ =
    turned-none g.X.Reactor.state g.X.Reactor.told (log_half g.N.LaneSession.names c.args.pen.now.log)
    c.args.proactor.now c.next_due.new.self c.requires.turn.telling
    c.in-None.ensures.unchanged c.in-None.ensures.none c.in-None.ensures.over c.in-None.ensures.drained
