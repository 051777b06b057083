use Rattle.std.proofs.Common.{refl}
use Rattle.proactor_core.specs.Proactor.{ProactorView}
use Rattle.proactor_core.specs.Tables.{TableState, act_taken}
use Rattle.proactor_core.proofs.TakingLemmas.{act-room, tables-turning}
use Rattle.proactor_core.proofs.proactor.Proactor.take_other.Goals as goal

pub returns-clause-turning : goal.returns-clause-turning
returns-clause-turning g c =
    let may = rw (← c.self.view_is) at c.requires.may in
    let base : ProactorView g.row.X.Denot = record {
      script = c.self.inside.script.now;
      tables = c.self.inside.tables;
      streams = c.self.inside.streams;
      reactor = c.self.inside.reactor;
    } in
    let s : TableState = base.tables in
    let room = act-room base.script s base.streams c.args.a may.turning.room may.untaken in
    rw c.take.ensures (tables-turning g.X.Reactor.state g.X.Reactor.told base (act_taken c.args.a s) refl room may.turning)
