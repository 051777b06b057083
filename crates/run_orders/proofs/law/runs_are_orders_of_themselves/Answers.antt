use Rattle.run_orders.proofs.OrderLemmas.{order_of_itself}
use Rattle.run_orders.proofs.law.runs_are_orders_of_themselves.Goals as goal

pub returns : goal.returns
returns c = λ run. order_of_itself run
