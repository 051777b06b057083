use Rattle.run_orders.proofs.GuardLemmas.{guards_suffice}
use Rattle.run_orders.proofs.law.guarded_things_never_overlap.Goals as goal

pub returns : goal.returns
returns c = λ run. guards_suffice run
