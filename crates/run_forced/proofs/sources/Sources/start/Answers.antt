use Rattle.std.proofs.Common.{◌+◌}
use Rattle.run_forced.proofs.SourceLemmas.{begin_last, sources_more, with_begin}
use Rattle.run_forced.proofs.sources.Sources.start.Goals as goal

pub returns : goal.returns
returns c = λ run at are.
    with_begin run (c.args.place + 1) c.args.op c.args.place c.put_last.new.self c.insert.new.self c.in_ok-insert.ensures.updates.0
    (c.in_ok-put_last.ensures run (c.args.place + 1) (sources_more run c.args.place c.args.self.now are) (begin_last run c.args.place c.args.op at))
    at
