use Rattle.run_rules.proofs.SpentLemmas.{spend_once}
use Rattle.run_rules.proofs.law.handlers_are_spent_once.Goals as goal

pub returns : goal.returns
returns c = λ level past. spend_once level past
