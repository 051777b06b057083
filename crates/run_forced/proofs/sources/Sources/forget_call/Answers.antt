use Rattle.run_forced.proofs.SourceLemmas.{without_call, without_done}
use Rattle.run_forced.proofs.sources.Sources.forget_call.Goals as goal

pub returns : goal.returns
returns c = λ run lines are.
    without_done run lines c.args.op (record c.args.self.now { calls = c.remove.new.self }) c.remove-2.new.self c.remove-2.ensures.updates.0
    (without_call run lines c.args.op c.args.self.now c.remove.new.self c.remove.ensures.updates.0 are)
