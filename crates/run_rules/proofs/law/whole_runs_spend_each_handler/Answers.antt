use Rattle.run_rules.proofs.SpentLemmas.{spend_each}
use Rattle.run_rules.proofs.law.whole_runs_spend_each_handler.Goals as goal

pub returns : goal.returns
returns c = λ level past. spend_each level past
