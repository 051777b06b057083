use Rattle.run_rules.proofs.StrictOrderLemmas.{goes_first}
use Rattle.run_rules.proofs.law.strict_strands_keep_one_order.Goals as goal

pub returns : goal.returns
returns c = λ level past. goes_first level past
