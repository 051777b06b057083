use Rattle.run_orders.proofs.GuardLemmas.{guarded_apart}
use Rattle.run_orders.proofs.law.guarded_claims_never_overlap.Goals as goal

pub returns : goal.returns
returns c = λ run apart steps. guarded_apart run apart steps
