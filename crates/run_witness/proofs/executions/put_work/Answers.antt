use Rattle.std.proofs.Common.{◌∙◌}
use Rattle.std.specs.Prelude.{◌==◌, ◌&&◌}
use Rattle.run_witness.specs.Executions.{works_in}
use Rattle.run_witness.proofs.FactsLemmas.{or_is}
use Rattle.run_witness.proofs.executions.put_work.Goals as goal

pub returns : goal.returns
returns c = λ by to.
    c.in_ok-insert.ensures.updates.0 (by, to)
    ∙ or_is (c.args.thread == by && c.args.context == to) (works_in c.args.workers.now by to)
