use Rattle.std.proofs.Common.{◌∙◌}
use Rattle.composed_ops.specs.Machine.{progress_of}
use Rattle.proactor_core.specs.Reactor.{told_stream}
use Rattle.proactor_core.specs.Reading.{IsGathered}
use Rattle.proactor_core.proofs.ReadingLemmas.{changes-on, goes-on-same, there-still, told-still}
use Rattle.proactor_core.proofs.reading.serve_read.Goals as goal

pub rounds-preserved : goal.rounds-preserved
rounds-preserved g c =
    let before = c.rounds.invariant in
    let first = g.X.Reactor.told c.args.reactor.now in
    let told = g.X.Reactor.told c.rounds.reactor in
    let left = g.X.Reactor.told c.read_once.new.reactor in
    let number = c.args.stream in
    let once = c.in_ok-read_once.ensures in
    let reads = rw c.in-GoesOn.is at once.reads in
    let follows = rw c.in-GoesOn.is at once.follows in
    record {
      keeps = once.keeps ∙ before.keeps;
      faults = once.counts ∙ before.faults;
      telling = once.tells ∙ before.telling;
      room = once.room ∙ before.room;
      there = there-still told left number once.told before.there;
      told = changes-on first told left number before.told once.told;
      asks = once.asks ∙ before.asks;
      reads = rw (c.rounds.auto.buffer, c.gather.auto.buffer) at (reads tt);
      same =
          goes-on-same first told left number (progress_of c.args.machine.now) (progress_of c.rounds.machine)
          (progress_of c.read_once.new.machine) c.args.held.now.bytes c.rounds.held.bytes c.read_once.new.held.bytes
          before.told follows before.same;
      gathered =
          told-still told left number
          (IsGathered (progress_of c.read_once.new.machine).asks c.read_once.new.held.bytes (told_stream left number))
          once.told (once.gathered c.in-GoesOn.is);
    }

pub returns-in-Stays-clause-told : goal.returns-in-Stays-clause-told
returns-in-Stays-clause-told g c =
    changes-on (g.X.Reactor.told c.args.reactor.now) (g.X.Reactor.told c.rounds.reactor)
    (g.X.Reactor.told c.read_once.new.reactor) c.args.stream c.rounds.invariant.told c.in_ok-read_once.ensures.told

pub returns-in-Completes-clause-told : goal.returns-in-Completes-clause-told
returns-in-Completes-clause-told g c =
    changes-on (g.X.Reactor.told c.args.reactor.now) (g.X.Reactor.told c.rounds.reactor)
    (g.X.Reactor.told c.read_once.new.reactor) c.args.stream c.rounds.invariant.told c.in_ok-read_once.ensures.told
