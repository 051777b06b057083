use Rattle.proactor_core.proofs.UntoldStreamLemmas.{streams-give-below}
use Rattle.proactor_core.proofs.untold_law.streams_give_in_order.Goals as goal

pub returns : goal.returns
returns c = streams-give-below
