use Rattle.std.proofs.Common.{sym}
use Rattle.run_forced.proofs.SourceLemmas.{begin_here}
use Rattle.run_forced.proofs.sources.Sources.put_line.Goals as goal

pub returns-in_ok-start-in-Some : goal.returns-in_ok-start-in-Some
returns-in_ok-start-in-Some c = λ run here are.
    c.in_ok-start-in-Some.ensures run (begin_here run c.args.place c.in-Some.op c.args.event.now here (sym c.in-Some.ensures)) are
