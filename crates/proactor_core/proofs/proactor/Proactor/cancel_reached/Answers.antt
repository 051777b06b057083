use Rattle.std.proofs.Common.{refl, ap, arith}
use Rattle.history_rules.specs.Performing.{is_wait_for}
use Rattle.proactor_core.specs.Proactor.{ProactorView}
use Rattle.proactor_core.specs.StreamRooms.{stream_read, stream_written}
use Rattle.proactor_core.specs.Tables.{TableState, wait_cancelled}
use Rattle.proactor_core.proofs.KnownLemmas.{read-known, write-known}
use Rattle.proactor_core.proofs.TakingLemmas.{cancel-room, tables-turning}
use Rattle.proactor_core.proofs.proactor.Proactor.cancel_reached.Goals as goal

pub returns-in-Wait-clause-turning : goal.returns-in-Wait-clause-turning
returns-in-Wait-clause-turning g c =
    let turning = rw (← c.self.view_is) at c.requires.turning in
    let base : ProactorView g.row.X.Denot = record {
      script = c.self.inside.script.now;
      tables = c.self.inside.tables;
      streams = c.self.inside.streams;
      reactor = c.self.inside.reactor;
    } in
    let s : TableState = base.tables in
    let room = cancel-room base.script s base.streams (is_wait_for c.args.op) turning.room in
    rw c.cancel_wait.ensures
    (tables-turning g.X.Reactor.state g.X.Reactor.told base (wait_cancelled c.args.op s) refl room turning)

pub cancel_on-requires-clause-known : goal.cancel_on-requires-clause-known
cancel_on-requires-clause-known g c =
    let it = c.act.result.now in
    let declared =
    read-known c.self.inside.script.now c.in-ReadSome.stream it (c.acts_fit.ensures c.args.op it c.act.ensures)
    (ap stream_read c.in-ReadSome.is) in
    let fit = c.requires.turning.room.fit.streams in
    let same = ap (λ (v : ProactorView g.row.X.Denot). v.script.world.streams) c.self.view_is in
    omega (arith, declared, fit, same)

pub cancel_on-requires-in-ReadAll-clause-known : goal.cancel_on-requires-in-ReadAll-clause-known
cancel_on-requires-in-ReadAll-clause-known g c =
    let it = c.act.result.now in
    let declared =
    read-known c.self.inside.script.now c.in-ReadAll.stream it (c.acts_fit.ensures c.args.op it c.act.ensures)
    (ap stream_read c.in-ReadAll.is) in
    let fit = c.requires.turning.room.fit.streams in
    let same = ap (λ (v : ProactorView g.row.X.Denot). v.script.world.streams) c.self.view_is in
    omega (arith, declared, fit, same)

pub cancel_on-requires-in-Until-clause-known : goal.cancel_on-requires-in-Until-clause-known
cancel_on-requires-in-Until-clause-known g c =
    let it = c.act.result.now in
    let declared =
    read-known c.self.inside.script.now c.in-Until.stream it (c.acts_fit.ensures c.args.op it c.act.ensures)
    (ap stream_read c.in-Until.is) in
    let fit = c.requires.turning.room.fit.streams in
    let same = ap (λ (v : ProactorView g.row.X.Denot). v.script.world.streams) c.self.view_is in
    omega (arith, declared, fit, same)

pub cancel_on-requires-in-WriteSome-clause-known : goal.cancel_on-requires-in-WriteSome-clause-known
cancel_on-requires-in-WriteSome-clause-known g c =
    let it = c.act.result.now in
    let declared =
    write-known c.self.inside.script.now c.in-WriteSome.stream it (c.acts_fit.ensures c.args.op it c.act.ensures)
    (ap stream_written c.in-WriteSome.is) in
    let fit = c.requires.turning.room.fit.streams in
    let same = ap (λ (v : ProactorView g.row.X.Denot). v.script.world.streams) c.self.view_is in
    omega (arith, declared, fit, same)

pub cancel_on-requires-in-WriteAll-clause-known : goal.cancel_on-requires-in-WriteAll-clause-known
cancel_on-requires-in-WriteAll-clause-known g c =
    let it = c.act.result.now in
    let declared =
    write-known c.self.inside.script.now c.in-WriteAll.stream it (c.acts_fit.ensures c.args.op it c.act.ensures)
    (ap stream_written c.in-WriteAll.is) in
    let fit = c.requires.turning.room.fit.streams in
    let same = ap (λ (v : ProactorView g.row.X.Denot). v.script.world.streams) c.self.view_is in
    omega (arith, declared, fit, same)
