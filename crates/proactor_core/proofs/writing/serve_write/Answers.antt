use Rattle.std.proofs.Common.{◌∙◌, None, Some}
use Rattle.composed_ops.specs.Machine.{progress_of}
use Rattle.proactor_core.proofs.ReadingLemmas.{changes-on, ends-same, goes-on-same, there-still}
use Rattle.proactor_core.proofs.writing.serve_write.Goals as goal

pub rounds-preserved : goal.rounds-preserved
rounds-preserved g c =
    let before = c.rounds.invariant in
    let first = g.X.Reactor.told c.args.reactor.now in
    let told = g.X.Reactor.told c.rounds.reactor in
    let left = g.X.Reactor.told c.write_once.new.reactor in
    let number = c.args.stream in
    let once = c.in_ok-write_once.ensures in
    let writes = rw c.in-GoesOn.is at once.writes in
    let follows = rw c.in-GoesOn.is at once.follows in
    record {
      keeps = once.keeps ∙ before.keeps;
      faults = once.counts ∙ before.faults;
      telling = once.tells ∙ before.telling;
      there = there-still told left number once.told before.there;
      told = changes-on first told left number before.told once.told;
      asks = once.asks ∙ before.asks;
      writes = writes tt;
      same = λ held.
          goes-on-same first told left number (progress_of c.args.machine.now) (progress_of c.rounds.machine)
          (progress_of c.write_once.new.machine) held held held before.told (follows held) (before.same held);
    }

pub returns-in-Stays-clause-told : goal.returns-in-Stays-clause-told
returns-in-Stays-clause-told g c =
    changes-on (g.X.Reactor.told c.args.reactor.now) (g.X.Reactor.told c.rounds.reactor)
    (g.X.Reactor.told c.write_once.new.reactor) c.args.stream c.rounds.invariant.told c.in_ok-write_once.ensures.told

pub returns-in-Completes-clause-told : goal.returns-in-Completes-clause-told
returns-in-Completes-clause-told g c =
    changes-on (g.X.Reactor.told c.args.reactor.now) (g.X.Reactor.told c.rounds.reactor)
    (g.X.Reactor.told c.write_once.new.reactor) c.args.stream c.rounds.invariant.told c.in_ok-write_once.ensures.told

pub returns-in-Stays-clause-follows : goal.returns-in-Stays-clause-follows
returns-in-Stays-clause-follows g c = λ held.
    let follows = rw c.in-Stays.is at c.in_ok-write_once.ensures.follows in
    ends-same (g.X.Reactor.told c.args.reactor.now) (g.X.Reactor.told c.rounds.reactor)
    (g.X.Reactor.told c.write_once.new.reactor) c.args.stream (progress_of c.args.machine.now)
    (progress_of c.rounds.machine) (progress_of c.write_once.new.machine) held held held None c.rounds.invariant.told
    (follows held) (c.rounds.invariant.same held)

pub returns-in-Completes-clause-follows : goal.returns-in-Completes-clause-follows
returns-in-Completes-clause-follows g c = λ held.
    let follows = rw c.in-Completes.is at c.in_ok-write_once.ensures.follows in
    ends-same (g.X.Reactor.told c.args.reactor.now) (g.X.Reactor.told c.rounds.reactor)
    (g.X.Reactor.told c.write_once.new.reactor) c.args.stream (progress_of c.args.machine.now)
    (progress_of c.rounds.machine) (progress_of c.write_once.new.machine) held held held
    (Some (c.in-Completes.code, c.in-Completes.size)) c.rounds.invariant.told (follows held)
    (c.rounds.invariant.same held)
