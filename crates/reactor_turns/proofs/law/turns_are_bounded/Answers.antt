use Rattle.reactor_turns.proofs.AheadLemmas.{starts_bounded}
use Rattle.reactor_turns.proofs.law.turns_are_bounded.Goals as goal

pub returns : goal.returns
returns c = starts_bounded
