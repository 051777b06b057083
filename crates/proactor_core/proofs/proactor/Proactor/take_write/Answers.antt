use Rattle.std.proofs.Common.{◌≡◌, ◌<◌, Some, length, refl, sym, ap, subst, ◌∙◌, arith}
use Rattle.std.specs.Option.{option_map}
use Rattle.composed_ops.specs.StreamOperation.{Writes}
use Rattle.composed_ops.specs.Machine.{progress_of}
use Rattle.composed_ops.specs.Progress.{StreamProgress, new_progress}
use Rattle.history_rules.specs.Performing.{with_taken, write_accepted}
use Rattle.proactor_core.specs.Pending.{writing_asked}
use Rattle.proactor_core.specs.Proactor.{IsAt, IsTurning, ProactorView}
use Rattle.proactor_core.specs.Streams.{bad_if_closed, stream_in, with_stream_in, write_begun}
use Rattle.proactor_core.specs.Tables.{TableState, act_taken}
use Rattle.proactor_core.proofs.KnownLemmas.{asks-write, write-known}
use Rattle.proactor_core.proofs.StreamStepLemmas.{begun, begun-step, begun-turning, write-begins, write-room, write_opened}
use Rattle.proactor_core.proofs.WorksLemmas.{follow}
use Rattle.proactor_core.proofs.proactor.Proactor.take_write.Goals as goal

pub accept_write-requires-clause-known : goal.accept_write-requires-clause-known
accept_write-requires-clause-known g c =
    let may = rw (← c.self.view_is) at c.requires.may in
    let base : ProactorView g.row.X.Denot = record {
      script = c.self.inside.script.now;
      tables = c.self.inside.tables;
      streams = c.self.inside.streams;
      reactor = c.self.inside.reactor;
    } in
    let s : TableState = base.tables in
    let n = c.args.stream in
    let a = c.args.a in
    let it = c.args.act.now in
    let asks = asks-write n it c.requires.writes in
    let declared = write-known base.script n it (c.acts_fit.ensures a it may.is_act) c.requires.writes in
    let within : n < length base.streams = omega (arith, declared, may.turning.room.fit.streams) in
    within

pub accept_write-requires-clause-room : goal.accept_write-requires-clause-room
accept_write-requires-clause-room g c =
    let may = rw (← c.self.view_is) at c.requires.may in
    let base : ProactorView g.row.X.Denot = record {
      script = c.self.inside.script.now;
      tables = c.self.inside.tables;
      streams = c.self.inside.streams;
      reactor = c.self.inside.reactor;
    } in
    let s : TableState = base.tables in
    let n = c.args.stream in
    let a = c.args.a in
    let it = c.args.act.now in
    let asks = asks-write n it c.requires.writes in
    let declared = write-known base.script n it (c.acts_fit.ensures a it may.is_act) c.requires.writes in
    let within : n < length base.streams = omega (arith, declared, may.turning.room.fit.streams) in
    write-room base.script s base.streams a n it may.is_act asks.side within may.untaken may.turning.room

pub connect-requires : goal.connect-requires
connect-requires g c =
    let may = rw (← c.self.view_is) at c.requires.may in
    let base : ProactorView g.row.X.Denot = record {
      script = c.self.inside.script.now;
      tables = c.self.inside.tables;
      streams = c.self.inside.streams;
      reactor = c.self.inside.reactor;
    } in
    let s : TableState = base.tables in
    let n = c.args.stream in
    let a = c.args.a in
    let it = c.args.act.now in
    let asks = asks-write n it c.requires.writes in
    let declared = write-known base.script n it (c.acts_fit.ensures a it may.is_act) c.requires.writes in
    let within : n < length base.streams = omega (arith, declared, may.turning.room.fit.streams) in
    let opened = write_opened a s.accepted asks.writing (stream_in base.streams n) in
    let progress : Some (progress_of c.in-Some.machine) ≡ Some (new_progress (Writes asks.writing)) =
    ap (option_map progress_of) (sym c.in-Some.is) ∙ c.of.ensures.machine
    ∙ ap (option_map new_progress) asks.asks in
    let is_asked : writing_asked (progress_of c.in-Some.machine).asks ≡ asks.writing =
    let same : progress_of c.in-Some.machine ≡ new_progress (Writes asks.writing) = cc in
    ap (λ (p : StreamProgress). writing_asked p.asks) same in
    let new : c.accept_write.new.self ≡ (begun a n opened base).streams =
    c.accept_write.ensures.accepted
    ∙ ap (λ m. with_stream_in n (write_begun a m (writing_asked (progress_of c.in-Some.machine).asks)) base.streams)
    c.accepted-accepted.ensures
    ∙ ap (λ r. with_stream_in n (write_begun a s.accepted r) base.streams) is_asked in
    let later : c.accept_write.new.due ≡ (begun a n opened base).tables.due =
    c.accept_write.ensures.due
    ∙ ap (λ (t : TableState). bad_if_closed a (stream_in base.streams n) t.due) c.tables.view_is in
    let step =
    begun-turning g.X.Reactor.state g.X.Reactor.told base a n opened within
    (write-begins base.script a n s.accepted asks.writing it (stream_in base.streams n) may.is_act asks.side)
    may.untaken may.turning in
    record {
      may = record {
        turning =
            rw (c.take.ensures, new)
            (subst
            (λ (t : TableState).
            IsTurning g.X.Reactor.state g.X.Reactor.told (record base {
              tables = act_taken a (record t { due = c.accept_write.new.due });
              streams = (begun a n opened base).streams;
            })) (sym c.tables.view_is) (rw later step));
        is_act = may.is_act;
      };
    }

pub returns-clause-follows : goal.returns-clause-follows
returns-clause-follows g c = λ half wanted is at.
    let here = rw (← c.self.view_is) at at in
    let may = rw (← c.self.view_is) at c.requires.may in
    let base : ProactorView g.row.X.Denot = record {
      script = c.self.inside.script.now;
      tables = c.self.inside.tables;
      streams = c.self.inside.streams;
      reactor = c.self.inside.reactor;
    } in
    let s : TableState = base.tables in
    let n = c.args.stream in
    let a = c.args.a in
    let it = c.args.act.now in
    let asks = asks-write n it c.requires.writes in
    let declared = write-known base.script n it (c.acts_fit.ensures a it may.is_act) c.requires.writes in
    let within : n < length base.streams = omega (arith, declared, may.turning.room.fit.streams) in
    let opened = write_opened a s.accepted asks.writing (stream_in base.streams n) in
    let progress : Some (progress_of c.in-Some.machine) ≡ Some (new_progress (Writes asks.writing)) =
    ap (option_map progress_of) (sym c.in-Some.is) ∙ c.of.ensures.machine
    ∙ ap (option_map new_progress) asks.asks in
    let is_asked : writing_asked (progress_of c.in-Some.machine).asks ≡ asks.writing =
    let same : progress_of c.in-Some.machine ≡ new_progress (Writes asks.writing) = cc in
    ap (λ (p : StreamProgress). writing_asked p.asks) same in
    let new : c.accept_write.new.self ≡ (begun a n opened base).streams =
    c.accept_write.ensures.accepted
    ∙ ap (λ m. with_stream_in n (write_begun a m (writing_asked (progress_of c.in-Some.machine).asks)) base.streams)
    c.accepted-accepted.ensures
    ∙ ap (λ r. with_stream_in n (write_begun a s.accepted r) base.streams) is_asked in
    let later : c.accept_write.new.due ≡ (begun a n opened base).tables.due =
    c.accept_write.ensures.due
    ∙ ap (λ (t : TableState). bad_if_closed a (stream_in base.streams n) t.due) c.tables.view_is in
    let same : asks.writing ≡ wanted = let both : Some asks.writing ≡ Some wanted = sym asks.is_write ∙ is in cc in
    let law =
    (follow base.tables base.streams half).write a n asks.writing within
    ∙ ap (write_accepted a n asks.writing) here.works in
    let step =
    begun-step g.X.Reactor.told base a n opened half (write_accepted a n asks.writing half) within refl law here in
    let there : IsAt g.X.Reactor.told (record base { tables = c.take.new.self; streams = c.accept_write.new.self })
    (with_taken a (write_accepted a n asks.writing half)) =
    rw (c.take.ensures, new)
    (subst
    (λ (t : TableState).
    IsAt g.X.Reactor.told
    (record base {
      tables = act_taken a (record t { due = c.accept_write.new.due });
      streams = (begun a n opened base).streams;
    }) (with_taken a (write_accepted a n asks.writing half))) (sym c.tables.view_is) (rw later step)) in
    c.connect.ensures.follows (with_taken a (write_accepted a n wanted half)) (subst
    (λ r.
    IsAt g.X.Reactor.told (record base { tables = c.take.new.self; streams = c.accept_write.new.self })
    (with_taken a (write_accepted a n r half))) same there)
