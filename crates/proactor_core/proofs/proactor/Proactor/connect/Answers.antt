use Rattle.std.proofs.Common.{sym, ◌∙◌, arith}
use Rattle.proactor_core.specs.Proactor.{ProactorView}
use Rattle.proactor_core.proofs.KnownLemmas.{slot-known}
use Rattle.proactor_core.proofs.TakingLemmas.{connect-step, connect-taken, connect-turning}
use Rattle.proactor_core.proofs.proactor.Proactor.connect.Goals as goal

pub connect-requires : goal.connect-requires
connect-requires g c = λ slot is.
    let may = rw (← c.self.view_is) at c.requires.may in
    let fits = c.acts_fit.ensures c.args.op c.args.act.now may.is_act in
    let slots = may.turning.room.fit.slots in
    let known = slot-known c.self.inside.script.now c.args.act.now fits slot (sym c.slot_of.ensures ∙ is) in
    omega arith

pub returns-clause-turning : goal.returns-clause-turning
returns-clause-turning g c =
    let may = rw (← c.self.view_is) at c.requires.may in
    let base : ProactorView g.row.X.Denot = record {
      script = c.self.inside.script.now;
      tables = c.self.inside.tables;
      streams = c.self.inside.streams;
      reactor = c.self.inside.reactor;
    } in
    rw c.connect.ensures (connect-turning g.X.Reactor.state g.X.Reactor.told base c.slot_of.result c.args.op
    c.reached_by.result (c.args.act.now, may.is_act, c.reached_by.ensures) may.turning)

pub returns-clause-taken : goal.returns-clause-taken
returns-clause-taken g c =
    rw (c.connect.ensures, ← c.self.view_is) (connect-taken c.slot_of.result c.args.op c.reached_by.result c.self.inside.tables)

pub returns-clause-follows : goal.returns-clause-follows
returns-clause-follows g c = λ half at.
    let here = rw (← c.self.view_is) at at in
    let base : ProactorView g.row.X.Denot = record {
      script = c.self.inside.script.now;
      tables = c.self.inside.tables;
      streams = c.self.inside.streams;
      reactor = c.self.inside.reactor;
    } in
    rw (c.connect.ensures, ← c.slot_of.ensures)
    (connect-step g.X.Reactor.told base half c.slot_of.result c.args.op c.reached_by.result here)
