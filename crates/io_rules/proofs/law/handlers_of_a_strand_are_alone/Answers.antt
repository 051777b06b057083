use Rattle.io_rules.proofs.AloneLemmas.{alone}
use Rattle.io_rules.proofs.law.handlers_of_a_strand_are_alone.Goals as goal

pub returns : goal.returns
returns c = alone
