use Rattle.run_rules.proofs.VerdictLemmas.{one_verdict}
use Rattle.run_rules.proofs.law.verdicts_are_unique.Goals as goal

pub returns : goal.returns
returns c = λ level past. one_verdict level past
