use Rattle.io_rules.proofs.OrderLemmas.{in_order}
use Rattle.io_rules.proofs.law.handlers_of_a_strand_begin_in_order.Goals as goal

pub returns : goal.returns
returns c = in_order
