use Rattle.std.proofs.Common.{refl, arith}
use Rattle.proactor_core.specs.Proactor.{ProactorView}
use Rattle.proactor_core.specs.Room.{AsksToWait}
use Rattle.proactor_core.specs.Streams.{pending_in_all}
use Rattle.proactor_core.specs.Tables.{TableState, act_taken, wait_begun}
use Rattle.proactor_core.proofs.KnownLemmas.{timer-known}
use Rattle.proactor_core.proofs.RoomLemmas.{keeps-room}
use Rattle.proactor_core.proofs.TakingLemmas.{tables-turning, wait-room}
use Rattle.proactor_core.proofs.proactor.Proactor.take_wait.Goals as goal

pub begin_wait-requires-clause-timer : goal.begin_wait-requires-clause-timer
begin_wait-requires-clause-timer g c =
    let may = rw (← c.self.view_is) at c.requires.may in
    let timers = may.turning.room.fit.expiries in
    let known =
    timer-known c.self.inside.script.now c.args.act.now c.args.timer
    (c.acts_fit.ensures c.args.a c.args.act.now may.is_act) c.requires.wait in
    omega arith

pub begin_wait-requires-clause-room : goal.begin_wait-requires-clause-room
begin_wait-requires-clause-room g c =
    let may = rw (← c.self.view_is) at c.requires.may in
    let timers = may.turning.room.fit.expiries in
    let known =
    timer-known c.self.inside.script.now c.args.act.now c.args.timer
    (c.acts_fit.ensures c.args.a c.args.act.now may.is_act) c.requires.wait in
    let s : TableState = c.self.inside.tables in
    let asks : AsksToWait c.self.inside.script.now c.args.a c.args.timer s = record {
      untaken = may.untaken;
      act = c.args.act.now;
      is_act = may.is_act;
      waits = c.requires.wait;
      known = omega arith;
    } in
    ((keeps-room c.self.inside.script.now (pending_in_all c.self.inside.streams) s may.turning.room.tables).may_wait
    c.args.a c.args.timer asks).room

pub connect-requires : goal.connect-requires
connect-requires g c =
    let may = rw (← c.self.view_is) at c.requires.may in
    let timers = may.turning.room.fit.expiries in
    let known =
    timer-known c.self.inside.script.now c.args.act.now c.args.timer
    (c.acts_fit.ensures c.args.a c.args.act.now may.is_act) c.requires.wait in
    let base : ProactorView g.row.X.Denot = record {
      script = c.self.inside.script.now;
      tables = c.self.inside.tables;
      streams = c.self.inside.streams;
      reactor = c.self.inside.reactor;
    } in
    let s : TableState = base.tables in
    let asks : AsksToWait base.script c.args.a c.args.timer s = record {
      untaken = may.untaken;
      act = c.args.act.now;
      is_act = may.is_act;
      waits = c.requires.wait;
      known = omega arith;
    } in
    let room = wait-room base.script s base.streams c.args.a c.args.timer may.turning.room asks in
    record {
      may = record {
        turning =
            rw (c.take.ensures, c.begin_wait.ensures)
            (tables-turning g.X.Reactor.state g.X.Reactor.told base
            (act_taken c.args.a (wait_begun c.args.a c.args.timer s)) refl room may.turning);
        is_act = may.is_act;
      };
    }
