use Rattle.std.proofs.Common.{sym, ◌∙◌}
use Rattle.run_witness.proofs.ExecutionsLemmas.{lent_none}
use Rattle.run_witness.proofs.executions.lent_by.Goals as goal

pub returns-in-None : goal.returns-in-None
returns-in-None c = λ past after begun may op.
    lent_none past c.args.line.now.thread c.args.line.now.does (sym begun ∙ c.in-None.is) may op

pub returns-in-Some : goal.returns-in-Some
returns-in-Some c = λ past after begun may op. c.lent_with.ensures past after (sym begun ∙ c.in-Some.is) op
