use Rattle.std.proofs.Common.{◌≡◌, ◌<◌, Some, length, refl, sym, ap, subst, ◌∙◌, arith}
use Rattle.std.specs.Option.{option_map}
use Rattle.composed_ops.specs.StreamOperation.{Reads, most_moved}
use Rattle.composed_ops.specs.Machine.{progress_of}
use Rattle.composed_ops.specs.Progress.{StreamProgress, new_progress}
use Rattle.history_rules.specs.Performing.{read_accepted, with_taken}
use Rattle.proactor_core.specs.Pending.{reading_asked}
use Rattle.proactor_core.specs.Proactor.{IsAt, IsTurning, ProactorView}
use Rattle.proactor_core.specs.Streams.{bad_if_closed, read_begun, stream_in, with_stream_in}
use Rattle.proactor_core.specs.Tables.{TableState, act_taken}
use Rattle.proactor_core.proofs.KnownLemmas.{asks-read, read-known}
use Rattle.proactor_core.proofs.StreamStepLemmas.{begun, begun-step, begun-turning, read-begins, read-room, read_opened}
use Rattle.proactor_core.proofs.WorksLemmas.{follow}
use Rattle.proactor_core.proofs.proactor.Proactor.take_read.Goals as goal

pub accept_read-requires-clause-known : goal.accept_read-requires-clause-known
accept_read-requires-clause-known g c =
    let may = rw (← c.self.view_is) at c.requires.may in
    let base : ProactorView g.row.X.Denot = record {
      script = c.self.inside.script.now;
      tables = c.self.inside.tables;
      streams = c.self.inside.streams;
      reactor = c.self.inside.reactor;
    } in
    let s : TableState = base.tables in
    let n = c.args.stream in
    let a = c.args.a in
    let it = c.args.act.now in
    let asks = asks-read n it c.requires.reads in
    let declared = read-known base.script n it (c.acts_fit.ensures a it may.is_act) c.requires.reads in
    let within : n < length base.streams = omega (arith, declared, may.turning.room.fit.streams) in
    within

pub accept_read-requires-clause-room : goal.accept_read-requires-clause-room
accept_read-requires-clause-room g c =
    let may = rw (← c.self.view_is) at c.requires.may in
    let base : ProactorView g.row.X.Denot = record {
      script = c.self.inside.script.now;
      tables = c.self.inside.tables;
      streams = c.self.inside.streams;
      reactor = c.self.inside.reactor;
    } in
    let s : TableState = base.tables in
    let n = c.args.stream in
    let a = c.args.a in
    let it = c.args.act.now in
    let asks = asks-read n it c.requires.reads in
    let declared = read-known base.script n it (c.acts_fit.ensures a it may.is_act) c.requires.reads in
    let within : n < length base.streams = omega (arith, declared, may.turning.room.fit.streams) in
    read-room base.script s base.streams a n it may.is_act asks.side within may.untaken may.turning.room

pub accept_read-requires-clause-holds : goal.accept_read-requires-clause-holds
accept_read-requires-clause-holds g c =
    let may = rw (← c.self.view_is) at c.requires.may in
    let base : ProactorView g.row.X.Denot = record {
      script = c.self.inside.script.now;
      tables = c.self.inside.tables;
      streams = c.self.inside.streams;
      reactor = c.self.inside.reactor;
    } in
    let s : TableState = base.tables in
    let n = c.args.stream in
    let a = c.args.a in
    let it = c.args.act.now in
    let asks = asks-read n it c.requires.reads in
    let declared = read-known base.script n it (c.acts_fit.ensures a it may.is_act) c.requires.reads in
    let within : n < length base.streams = omega (arith, declared, may.turning.room.fit.streams) in
    let progress : Some (progress_of c.in-Some.machine) ≡ Some (new_progress (Reads asks.reading)) =
    ap (option_map progress_of) (sym c.in-Some.is) ∙ c.of.ensures.machine
    ∙ ap (option_map new_progress) asks.asks in
    let same : progress_of c.in-Some.machine ≡ new_progress (Reads asks.reading) = cc in
    let size = ap (λ (p : StreamProgress). most_moved p.asks) same in
    let room = may.turning.room.queues.sizes a n it within may.is_act in
    omega (arith, size, room, asks.size)

pub connect-requires : goal.connect-requires
connect-requires g c =
    let may = rw (← c.self.view_is) at c.requires.may in
    let base : ProactorView g.row.X.Denot = record {
      script = c.self.inside.script.now;
      tables = c.self.inside.tables;
      streams = c.self.inside.streams;
      reactor = c.self.inside.reactor;
    } in
    let s : TableState = base.tables in
    let n = c.args.stream in
    let a = c.args.a in
    let it = c.args.act.now in
    let asks = asks-read n it c.requires.reads in
    let declared = read-known base.script n it (c.acts_fit.ensures a it may.is_act) c.requires.reads in
    let within : n < length base.streams = omega (arith, declared, may.turning.room.fit.streams) in
    let opened = read_opened a s.accepted asks.reading (stream_in base.streams n) in
    let progress : Some (progress_of c.in-Some.machine) ≡ Some (new_progress (Reads asks.reading)) =
    ap (option_map progress_of) (sym c.in-Some.is) ∙ c.of.ensures.machine
    ∙ ap (option_map new_progress) asks.asks in
    let is_asked : reading_asked (progress_of c.in-Some.machine).asks ≡ asks.reading =
    let same : progress_of c.in-Some.machine ≡ new_progress (Reads asks.reading) = cc in
    ap (λ (p : StreamProgress). reading_asked p.asks) same in
    let new : c.accept_read.new.self ≡ (begun a n opened base).streams =
    c.accept_read.ensures.accepted
    ∙ ap (λ m. with_stream_in n (read_begun a m (reading_asked (progress_of c.in-Some.machine).asks)) base.streams)
    c.accepted-accepted.ensures
    ∙ ap (λ r. with_stream_in n (read_begun a s.accepted r) base.streams) is_asked in
    let later : c.accept_read.new.due ≡ (begun a n opened base).tables.due =
    c.accept_read.ensures.due
    ∙ ap (λ (t : TableState). bad_if_closed a (stream_in base.streams n) t.due) c.tables.view_is in
    let step =
    begun-turning g.X.Reactor.state g.X.Reactor.told base a n opened within
    (read-begins base.script a n s.accepted asks.reading it (stream_in base.streams n) may.is_act asks.side)
    may.untaken may.turning in
    record {
      may = record {
        turning =
            rw (c.take.ensures, new)
            (subst
            (λ (t : TableState).
            IsTurning g.X.Reactor.state g.X.Reactor.told (record base {
              tables = act_taken a (record t { due = c.accept_read.new.due });
              streams = (begun a n opened base).streams;
            })) (sym c.tables.view_is) (rw later step));
        is_act = may.is_act;
      };
    }

pub returns-clause-follows : goal.returns-clause-follows
returns-clause-follows g c = λ half wanted is at.
    let here = rw (← c.self.view_is) at at in
    let may = rw (← c.self.view_is) at c.requires.may in
    let base : ProactorView g.row.X.Denot = record {
      script = c.self.inside.script.now;
      tables = c.self.inside.tables;
      streams = c.self.inside.streams;
      reactor = c.self.inside.reactor;
    } in
    let s : TableState = base.tables in
    let n = c.args.stream in
    let a = c.args.a in
    let it = c.args.act.now in
    let asks = asks-read n it c.requires.reads in
    let declared = read-known base.script n it (c.acts_fit.ensures a it may.is_act) c.requires.reads in
    let within : n < length base.streams = omega (arith, declared, may.turning.room.fit.streams) in
    let opened = read_opened a s.accepted asks.reading (stream_in base.streams n) in
    let progress : Some (progress_of c.in-Some.machine) ≡ Some (new_progress (Reads asks.reading)) =
    ap (option_map progress_of) (sym c.in-Some.is) ∙ c.of.ensures.machine
    ∙ ap (option_map new_progress) asks.asks in
    let is_asked : reading_asked (progress_of c.in-Some.machine).asks ≡ asks.reading =
    let same : progress_of c.in-Some.machine ≡ new_progress (Reads asks.reading) = cc in
    ap (λ (p : StreamProgress). reading_asked p.asks) same in
    let new : c.accept_read.new.self ≡ (begun a n opened base).streams =
    c.accept_read.ensures.accepted
    ∙ ap (λ m. with_stream_in n (read_begun a m (reading_asked (progress_of c.in-Some.machine).asks)) base.streams)
    c.accepted-accepted.ensures
    ∙ ap (λ r. with_stream_in n (read_begun a s.accepted r) base.streams) is_asked in
    let later : c.accept_read.new.due ≡ (begun a n opened base).tables.due =
    c.accept_read.ensures.due
    ∙ ap (λ (t : TableState). bad_if_closed a (stream_in base.streams n) t.due) c.tables.view_is in
    let same : asks.reading ≡ wanted = let both : Some asks.reading ≡ Some wanted = sym asks.is_read ∙ is in cc in
    let law =
    (follow base.tables base.streams half).read a n asks.reading within
    ∙ ap (read_accepted a n asks.reading) here.works in
    let step =
    begun-step g.X.Reactor.told base a n opened half (read_accepted a n asks.reading half) within refl law here in
    let there : IsAt g.X.Reactor.told (record base { tables = c.take.new.self; streams = c.accept_read.new.self })
    (with_taken a (read_accepted a n asks.reading half)) =
    rw (c.take.ensures, new)
    (subst
    (λ (t : TableState).
    IsAt g.X.Reactor.told
    (record base {
      tables = act_taken a (record t { due = c.accept_read.new.due });
      streams = (begun a n opened base).streams;
    }) (with_taken a (read_accepted a n asks.reading half))) (sym c.tables.view_is) (rw later step)) in
    c.connect.ensures.follows (with_taken a (read_accepted a n wanted half)) (subst
    (λ r.
    IsAt g.X.Reactor.told (record base { tables = c.take.new.self; streams = c.accept_read.new.self })
    (with_taken a (read_accepted a n r half))) same there)
