use Rattle.run_forced.proofs.SourceLemmas.{with_call}
use Rattle.run_forced.proofs.sources.Sources.put_call.Goals as goal

pub returns : goal.returns
returns c = λ run lines are at.
    with_call run lines c.args.op c.args.called c.args.self.now c.insert.new.self c.in_ok-insert.ensures.updates.0 are at
