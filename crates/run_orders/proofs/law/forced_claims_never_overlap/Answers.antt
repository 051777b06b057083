use Rattle.run_orders.proofs.ForcedLemmas.{forced_apart}
use Rattle.run_orders.proofs.law.forced_claims_never_overlap.Goals as goal

pub returns : goal.returns
returns c = λ run apart steps. forced_apart run apart steps
