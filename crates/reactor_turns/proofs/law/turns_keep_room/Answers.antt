use Rattle.reactor_turns.proofs.AheadLemmas.{event_leaves}
use Rattle.reactor_turns.proofs.law.turns_keep_room.Goals as goal

pub returns : goal.returns
returns c = event_leaves
