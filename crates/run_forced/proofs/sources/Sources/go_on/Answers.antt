use Rattle.std.proofs.Common.{◌+◌}
use Rattle.run_forced.proofs.SourceLemmas.{last_here, sources_more}
use Rattle.run_forced.proofs.sources.Sources.go_on.Goals as goal

pub returns : goal.returns
returns c = λ run here plain are.
    c.in_ok-put_last.ensures run (c.args.place + 1)
    (sources_more run c.args.place c.place.new.self (c.in_ok-place.ensures run here plain are))
    (last_here run c.args.place c.args.event.now c.posted_by.result here plain c.posted_by.ensures)
