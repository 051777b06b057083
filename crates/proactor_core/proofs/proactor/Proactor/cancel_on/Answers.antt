use Rattle.std.proofs.Common.{◌≡◌, set, sym, ap, subst, ◌∙◌}
use Rattle.history_rules.specs.Performing.{one_of_stream_cancelled}
use Rattle.proactor_core.specs.Proactor.{IsAt, IsTurning, ProactorView}
use Rattle.proactor_core.specs.Due.{listed}
use Rattle.proactor_core.specs.Streams.{aborts_of_op, stream_in, without_op}
use Rattle.proactor_core.specs.Tables.{TableState}
use Rattle.proactor_core.proofs.StreamStepLemmas.{cancel-step, cancel-turning}
use Rattle.proactor_core.proofs.proactor.Proactor.cancel_on.Goals as goal

pub returns-clause-turning : goal.returns-clause-turning
returns-clause-turning g c =
    let turning = rw (← c.self.view_is) at c.requires.turning in
    let within = rw (← c.self.view_is) at c.requires.known in
    let base : ProactorView g.row.X.Denot = record {
      script = c.self.inside.script.now;
      tables = c.self.inside.tables;
      streams = c.self.inside.streams;
      reactor = c.self.inside.reactor;
    } in
    let step = cancel-turning g.X.Reactor.state g.X.Reactor.told base c.args.stream c.args.op within turning in
    let later : c.cancel.new.due
    ≡ listed (aborts_of_op c.args.op (stream_in base.streams c.args.stream)) base.tables.due =
    c.cancel.ensures.due
    ∙ ap (listed (aborts_of_op c.args.op (stream_in base.streams c.args.stream)))
    (ap (λ (s : TableState). s.due) c.tables.view_is) in
    rw c.cancel.ensures.cancelled (subst
    (λ (s : TableState).
    IsTurning g.X.Reactor.state g.X.Reactor.told (record base {
      tables = record s { due = c.cancel.new.due };
      streams = set base.streams c.args.stream (without_op c.args.op (stream_in base.streams c.args.stream));
    })) (sym c.tables.view_is) (rw later step))

pub returns-clause-follows : goal.returns-clause-follows
returns-clause-follows g c = λ half at.
    let here = rw (← c.self.view_is) at at in
    let within = rw (← c.self.view_is) at c.requires.known in
    let base : ProactorView g.row.X.Denot = record {
      script = c.self.inside.script.now;
      tables = c.self.inside.tables;
      streams = c.self.inside.streams;
      reactor = c.self.inside.reactor;
    } in
    let step = cancel-step g.X.Reactor.told base c.args.stream c.args.op half within here in
    let later : c.cancel.new.due
    ≡ listed (aborts_of_op c.args.op (stream_in base.streams c.args.stream)) base.tables.due =
    c.cancel.ensures.due
    ∙ ap (listed (aborts_of_op c.args.op (stream_in base.streams c.args.stream)))
    (ap (λ (s : TableState). s.due) c.tables.view_is) in
    rw c.cancel.ensures.cancelled (subst
    (λ (s : TableState).
    IsAt g.X.Reactor.told
    (record base {
      tables = record s { due = c.cancel.new.due };
      streams = set base.streams c.args.stream (without_op c.args.op (stream_in base.streams c.args.stream));
    }) (one_of_stream_cancelled c.args.op c.args.stream half)) (sym c.tables.view_is) (rw later step))
