use Rattle.std.proofs.Common.{ap, length, sym, ◌∙◌}
use Rattle.composed_ops.specs.Machine.{progress_of}
use Rattle.proactor_core.specs.Round.{round_of}
use Rattle.proactor_core.proofs.WritingLemmas.{moved-within, write-follows, write-waits}
use Rattle.proactor_core.proofs.writing.write_once.Goals as goal

pub returns-in-NotYet-clause-follows : goal.returns-in-NotYet-clause-follows
returns-in-NotYet-clause-follows g c = λ held.
    let may = c.requires.may_write in
    let progress = progress_of c.args.machine.now in
    let write = c.in_ok-moved.ensures in
    write-waits (g.X.Reactor.told c.args.reactor.now) (g.X.Reactor.told c.write_some.new.self) c.args.stream
    progress.asks progress.moved progress.latest held c.in-Write.from c.in-Write.count c.next_bytes-bytes.result.now
    c.in_ok-moved.moved may.under_way may.writes (sym c.in-Write.ensures.wanted) c.requires.servable.there
    write.told_answer c.next_bytes-bytes.ensures.bytes c.in-NotYet.is write.told_takes

pub returns-clause-follows : goal.returns-clause-follows
returns-clause-follows g c = λ held.
    let may = c.requires.may_write in
    let progress = progress_of c.args.machine.now in
    let write = c.in_ok-moved.ensures in
    let turns = c.round_of.ensures ∙ ap round_of c.got.ensures.step in
    let fewer =
    rw c.next_bytes-bytes.ensures.count at
    (moved-within (length c.next_bytes-bytes.result.now) c.in_ok-moved.moved write.within) in
    write-follows (g.X.Reactor.told c.args.reactor.now) (g.X.Reactor.told c.write_some.new.self) c.args.stream
    progress.asks progress.moved progress.latest (progress_of c.got.new.self) held c.in-Write.from c.in-Write.count
    c.next_bytes-bytes.result.now c.in_ok-moved.moved c.round_of.result may.under_way may.writes
    (sym c.in-Write.ensures.wanted) c.requires.servable.there write.told_answer c.next_bytes-bytes.ensures.bytes fewer
    write.told_takes c.got.ensures.progress turns
