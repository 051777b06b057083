use Rattle.run_orders.proofs.JoinLemmas.{joins_suffice}
use Rattle.run_orders.proofs.law.joined_things_never_overlap.Goals as goal

pub returns : goal.returns
returns c = λ run. joins_suffice run
