use Rattle.std.proofs.Common.{◌≡◌, refl, sym, ap, subst, ◌∙◌}
use Rattle.history_rules.specs.Performing.{shut_at, with_taken}
use Rattle.proactor_core.specs.Proactor.{IsAt, IsTurning, ProactorView}
use Rattle.reactor_trait.specs.Reactor.{outside_closed}
use Rattle.proactor_core.specs.Reactor.{tells}
use Rattle.proactor_core.specs.Room.{IsUntaken}
use Rattle.proactor_core.specs.Streams.{closes_state, closes_told, stream_in}
use Rattle.proactor_core.specs.Due.{listed}
use Rattle.history_rules.specs.Performing.{all_of_stream}
use Rattle.proactor_core.specs.Tables.{TableState, act_taken}
use Rattle.proactor_core.proofs.CloseLemmas.{close-step, close-turning, closed_in, shut-before, shuts}
use Rattle.proactor_core.proofs.TakingLemmas.{act-room, tables-turning, taken-step}
use Rattle.proactor_core.proofs.TellsLemmas.{tells-mapped}
use Rattle.proactor_core.proofs.proactor.Proactor.take_close.Goals as goal

pub returns-then-is_closed-clause-turning : goal.returns-then-is_closed-clause-turning
returns-then-is_closed-clause-turning g c =
    let may = rw (← c.self.view_is) at c.requires.may in
    let base : ProactorView g.row.X.Denot = record {
      script = c.self.inside.script.now;
      tables = c.self.inside.tables;
      streams = c.self.inside.streams;
      reactor = c.self.inside.reactor;
    } in
    let s : TableState = base.tables in
    let room = act-room base.script s base.streams c.args.a may.turning.room may.untaken in
    rw c.take.ensures (tables-turning g.X.Reactor.state g.X.Reactor.told base (act_taken c.args.a s) refl room may.turning)

pub returns-clause-turning : goal.returns-clause-turning
returns-clause-turning g c =
    let may = rw (← c.self.view_is) at c.requires.may in
    let within = rw (← c.self.view_is) at c.requires.known in
    let base : ProactorView g.row.X.Denot = record {
      script = c.self.inside.script.now;
      tables = c.self.inside.tables;
      streams = c.self.inside.streams;
      reactor = c.self.inside.reactor;
    } in
    let s : TableState = base.tables in
    let n = c.args.stream in
    let a = c.args.a in
    let reactor = c.close.new.reactor in
    let opened = sym c.is_closed.ensures ∙ c.if-is_closed.false in
    let closes = c.close.ensures.state ∙ ap (λ t. closes_state t n (g.X.Reactor.state base.reactor)) opened in
    let told_closes = c.close.ensures.told ∙ ap (λ t. closes_told t n (g.X.Reactor.told base.reactor)) opened in
    let one = closed_in n reactor base in
    let first = close-turning g.X.Reactor.state g.X.Reactor.told base n reactor within closes told_closes may.turning in
    let un : IsUntaken a one.tables = record { within = may.untaken.within; untaken = may.untaken.untaken } in
    let step =
    tables-turning g.X.Reactor.state g.X.Reactor.told one (act_taken a one.tables) refl
    (act-room base.script one.tables one.streams a first.room un) first in
    let v = stream_in base.streams n in
    let later : c.close.new.due ≡ one.tables.due =
    c.close.ensures.due ∙ ap (λ (t : TableState). listed (all_of_stream v.reads v.writes) t.due) c.tables.view_is in
    rw (c.take-2.ensures, c.close.ensures.closed) (subst
    (λ (t : TableState).
    IsTurning g.X.Reactor.state g.X.Reactor.told
    (record one { tables = act_taken a (record t { due = c.close.new.due }) })) (sym c.tables.view_is)
    (rw later step))

pub returns-clause-follows : goal.returns-clause-follows
returns-clause-follows g c = λ half at.
    let here = rw (← c.self.view_is) at at in
    let within = rw (← c.self.view_is) at c.requires.known in
    let base : ProactorView g.row.X.Denot = record {
      script = c.self.inside.script.now;
      tables = c.self.inside.tables;
      streams = c.self.inside.streams;
      reactor = c.self.inside.reactor;
    } in
    let s : TableState = base.tables in
    let n = c.args.stream in
    let a = c.args.a in
    let reactor = c.close.new.reactor in
    let opened = sym c.is_closed.ensures ∙ c.if-is_closed.false in
    let told_closes = c.close.ensures.told ∙ ap (λ t. closes_told t n (g.X.Reactor.told base.reactor)) opened in
    let one = closed_in n reactor base in
    let first = close-step g.X.Reactor.state g.X.Reactor.told base n reactor within half told_closes here in
    let after = shut_at n half in
    let once = shuts g.X.Reactor.told base half n within opened here in
    let step = taken-step g.X.Reactor.told one one.tables after after a refl first.works first in
    let v = stream_in base.streams n in
    let later : c.close.new.due ≡ one.tables.due =
    c.close.ensures.due ∙ ap (λ (t : TableState). listed (all_of_stream v.reads v.writes) t.due) c.tables.view_is in
    rw (c.take-2.ensures, c.close.ensures.closed, once) (subst
    (λ (t : TableState).
    IsAt g.X.Reactor.told (record one { tables = act_taken a (record t { due = c.close.new.due }) })
    (with_taken a after)) (sym c.tables.view_is) (rw later step))

pub returns-then-is_closed-clause-follows : goal.returns-then-is_closed-clause-follows
returns-then-is_closed-clause-follows g c = λ half at.
    let here = rw (← c.self.view_is) at at in
    let within = rw (← c.self.view_is) at c.requires.known in
    let base : ProactorView g.row.X.Denot = record {
      script = c.self.inside.script.now;
      tables = c.self.inside.tables;
      streams = c.self.inside.streams;
      reactor = c.self.inside.reactor;
    } in
    let n = c.args.stream in
    let closed = sym c.is_closed.ensures ∙ c.if-is_closed.true in
    let same = shut-before g.X.Reactor.told base half n within closed here in
    rw (c.take.ensures, same) (taken-step g.X.Reactor.told base base.tables half half c.args.a refl here.works here)

pub returns-clause-tells : goal.returns-clause-tells
returns-clause-tells g c =
    let base : ProactorView g.row.X.Denot = record {
      script = c.self.inside.script.now;
      tables = c.self.inside.tables;
      streams = c.self.inside.streams;
      reactor = c.self.inside.reactor;
    } in
    let n = c.args.stream in
    let opened = sym c.is_closed.ensures ∙ c.if-is_closed.false in
    let told_closes = c.close.ensures.told ∙ ap (λ t. closes_told t n (g.X.Reactor.told base.reactor)) opened in
    rw (← c.self.view_is) (ap tells told_closes ∙ tells-mapped (outside_closed n) (g.X.Reactor.told base.reactor))
