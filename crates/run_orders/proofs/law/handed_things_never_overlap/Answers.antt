use Rattle.run_orders.proofs.HandingLemmas.{handing_suffices}
use Rattle.run_orders.proofs.law.handed_things_never_overlap.Goals as goal

pub returns : goal.returns
returns c = λ run thing legal hands. handing_suffices run thing legal hands
