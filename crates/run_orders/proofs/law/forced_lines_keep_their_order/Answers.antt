use Rattle.run_orders.proofs.ForcedLemmas.{forced_order}
use Rattle.run_orders.proofs.law.forced_lines_keep_their_order.Goals as goal

pub returns : goal.returns
returns c = λ run apart before step first legal order forced. forced_order run apart before step first legal order forced
