use Rattle.run_orders.proofs.OrderLemmas.{one_tree_apart}
use Rattle.run_orders.proofs.law.trees_claim_on_one_thread.Goals as goal

pub returns : goal.returns
returns c = λ run apart steps. one_tree_apart run apart steps
