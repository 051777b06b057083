use Rattle.std.proofs.Common.{sym, ◌∙◌}
use Rattle.run_witness.proofs.ExecutionsLemmas.{idle_none}
use Rattle.run_witness.proofs.executions.idle_by.Goals as goal

pub returns-in-None : goal.returns-in-None
returns-in-None c = λ past after begun called may op strand begins_it.
    idle_none c.args.apart.now past c.args.line.now.thread c.args.line.now.does (sym begun
    ∙ c.in-None.is) may op strand begins_it

pub returns-in-Some : goal.returns-in-Some
returns-in-Some c = λ past after begun called may op strand begins_it.
    c.idle_with.ensures past after (sym begun ∙ c.in-Some.is) called op strand begins_it
