use Rattle.run_forced.proofs.SourceLemmas.{with_done}
use Rattle.run_forced.proofs.sources.Sources.put_done.Goals as goal

pub returns : goal.returns
returns c = λ run lines are at.
    with_done run lines c.args.op c.args.place c.args.self.now c.insert.new.self c.in_ok-insert.ensures.updates.0 are at
