use Rattle.chan_core.proofs.RunLemmas.{keeps-order}
use Rattle.chan_core.proofs.law.channels_keep_order.Goals as goal

pub returns : goal.returns
returns c = keeps-order
