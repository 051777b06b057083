use Rattle.std.proofs.Common.{◌≡◌, ◌<◌, Bool, List, Some, None, false, get_or, length, refl, sym, ap, subst, ◌∙◌}
use Rattle.history_rules.specs.Performing.{emitted}
use Rattle.proactor_core.specs.Following.{chosen_cancelled}
use Rattle.proactor_core.specs.Proactor.{IsAt, ProactorView}
use Rattle.proactor_core.specs.Room.{IsUntaken}
use Rattle.proactor_core.specs.Tables.{TableState, act_taken}
use Rattle.proactor_core.proofs.EmitLemmas.{emit-law}
use Rattle.proactor_core.proofs.SoundLemmas.{connected-at}
use Rattle.proactor_core.proofs.TakingLemmas.{act-room, tables-turning, taken-step}
use Rattle.proactor_core.proofs.proactor.Proactor.take_emit.Goals as goal

pub returns-in-None-clause-turning : goal.returns-in-None-clause-turning
returns-in-None-clause-turning g c =
    let may = rw (← c.self.view_is) at c.requires.may in
    let base : ProactorView g.row.X.Denot = record {
      script = c.self.inside.script.now;
      tables = c.self.inside.tables;
      streams = c.self.inside.streams;
      reactor = c.self.inside.reactor;
    } in
    let s : TableState = base.tables in
    let room = act-room base.script s base.streams c.args.a may.turning.room may.untaken in
    rw c.take.ensures (tables-turning g.X.Reactor.state g.X.Reactor.told base (act_taken c.args.a s) refl room may.turning)

pub returns-in-None-clause-follows : goal.returns-in-None-clause-follows
returns-in-None-clause-follows g c = λ half at.
    let may = rw (← c.self.view_is) at c.requires.may in
    let here = rw (← c.self.view_is) at at in
    let base : ProactorView g.row.X.Denot = record {
      script = c.self.inside.script.now;
      tables = c.self.inside.tables;
      streams = c.self.inside.streams;
      reactor = c.self.inside.reactor;
    } in
    let s : TableState = base.tables in
    let connected = connected-at base.script s.slots c.args.slot may.turning.room.connected in
    let is : emitted base.script (get_or half.slots c.args.slot None) c.args.types half ≡ half =
    emit-law g.X.Reactor.told base half c.args.slot c.args.types connected here
    ∙ ap (λ o. chosen_cancelled base.script o half) (sym c.reached.ensures ∙ c.in-None.is) in
    let step = taken-step g.X.Reactor.told base s half half c.args.a refl here.works here in
    rw (← c.self.view_is, c.take.ensures, is) step

pub returns-in-Some-clause-turning : goal.returns-in-Some-clause-turning
returns-in-Some-clause-turning g c =
    let may = rw (← c.self.view_is) at c.requires.may in
    let turning = rw (← c.self-in-Some.view_is) at c.cancel_reached.ensures.turning in
    let base : ProactorView g.row.X.Denot = record {
      script = c.self.inside.script.now;
      tables = c.self.inside.tables;
      streams = c.self.inside.streams;
      reactor = c.self.inside.reactor;
    } in
    let s : TableState = base.tables in
    let left : ProactorView g.row.X.Denot = record {
      script = c.self-in-Some.inside.script.now;
      tables = c.self-in-Some.inside.tables;
      streams = c.self-in-Some.inside.streams;
      reactor = c.self-in-Some.inside.reactor;
    } in
    let taken : left.tables.taken ≡ s.taken =
    ap (λ (v : ProactorView g.row.X.Denot). v.tables.taken) c.self-in-Some.view_is ∙ c.cancel_reached.ensures.taken
    ∙ sym (ap (λ (v : ProactorView g.row.X.Denot). v.tables.taken) c.self.view_is) in
    let un : IsUntaken c.args.a left.tables = record {
      within = subst (λ (t : List Bool). c.args.a < length t) (sym taken) may.untaken.within;
      untaken = subst (λ (t : List Bool). get_or t c.args.a false ≡ false) (sym taken) may.untaken.untaken;
    } in
    rw c.take-in-Some.ensures (tables-turning g.X.Reactor.state g.X.Reactor.told left (act_taken c.args.a left.tables)
    refl (act-room left.script left.tables left.streams c.args.a turning.room un) turning)

pub returns-in-Some-clause-follows : goal.returns-in-Some-clause-follows
returns-in-Some-clause-follows g c = λ half at.
    let may = rw (← c.self.view_is) at c.requires.may in
    let here = rw (← c.self.view_is) at at in
    let base : ProactorView g.row.X.Denot = record {
      script = c.self.inside.script.now;
      tables = c.self.inside.tables;
      streams = c.self.inside.streams;
      reactor = c.self.inside.reactor;
    } in
    let s : TableState = base.tables in
    let left : ProactorView g.row.X.Denot = record {
      script = c.self-in-Some.inside.script.now;
      tables = c.self-in-Some.inside.tables;
      streams = c.self-in-Some.inside.streams;
      reactor = c.self-in-Some.inside.reactor;
    } in
    let connected = connected-at base.script s.slots c.args.slot may.turning.room.connected in
    let after = chosen_cancelled base.script (Some c.in-Some.op) half in
    let is : emitted base.script (get_or half.slots c.args.slot None) c.args.types half ≡ after =
    emit-law g.X.Reactor.told base half c.args.slot c.args.types connected here
    ∙ ap (λ o. chosen_cancelled base.script o half) (sym c.reached.ensures ∙ c.in-Some.is) in
    let got = c.cancel_reached.ensures.follows half at in
    let there : IsAt g.X.Reactor.told left after = rw (← c.self-in-Some.view_is, ← c.self.view_is) at got in
    let step = taken-step g.X.Reactor.told left left.tables after after c.args.a refl there.works there in
    rw (← c.self.view_is, c.take-in-Some.ensures, is) step
