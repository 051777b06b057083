use Rattle.run_rules.proofs.NestingLemmas.{nest_nothing}
use Rattle.run_rules.proofs.law.strict_runs_nest_nothing.Goals as goal

pub returns : goal.returns
returns c = λ level past. nest_nothing level past
