use Rattle.run_forced.proofs.SourceLemmas.{without_begin, without_behind, without_execution}
use Rattle.run_forced.proofs.sources.Sources.forget_execution.Goals as goal

pub returns : goal.returns
returns c = λ run lines are.
    without_behind run lines c.args.op (record c.args.self.now { executions = c.remove.new.self; begins = c.remove-2.new.self })
    c.remove-3.new.self c.remove-3.ensures.updates.0
    (without_begin run lines c.args.op (record c.args.self.now { executions = c.remove.new.self }) c.remove-2.new.self
    c.remove-2.ensures.updates.0
    (without_execution run lines c.args.op c.args.self.now c.remove.new.self c.remove.ensures.updates.0 are))
