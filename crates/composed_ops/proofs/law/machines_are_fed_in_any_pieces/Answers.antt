use Rattle.composed_ops.proofs.RunLemmas.{runs-by_rules}
use Rattle.composed_ops.proofs.law.machines_are_fed_in_any_pieces.Goals as goal

pub returns : goal.returns
returns c = runs-by_rules
