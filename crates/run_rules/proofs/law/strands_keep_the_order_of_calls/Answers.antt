use Rattle.run_rules.proofs.StrandLemmas.{order_kept}
use Rattle.run_rules.proofs.law.strands_keep_the_order_of_calls.Goals as goal

pub returns : goal.returns
returns c = λ level past plain legal thread op strand first code size. order_kept level past thread op strand first code size plain
