use Rattle.std.proofs.Common.{sym}
use Rattle.run_forced.proofs.SourceLemmas.{queued_here, with_behind}
use Rattle.run_forced.proofs.sources.Sources.place.Goals as goal

pub returns-in_ok-insert : goal.returns-in_ok-insert
returns-in_ok-insert c = λ run here plain are.
    with_behind run c.args.place c.in-Some-posted.op c.args.place c.args.self.now c.insert.new.self c.in_ok-insert.ensures.updates.0 are
    (queued_here run c.args.place c.in-Some-posted.op c.args.event.now c.in-Some.last here plain
    (are.lasts c.args.event.now.note.frame c.in-Some.last (sym c.in-Some.ensures)) c.in-Some-posted.is)
