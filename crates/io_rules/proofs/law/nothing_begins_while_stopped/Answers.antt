use Rattle.io_rules.proofs.StopLemmas.{nothing_begins}
use Rattle.io_rules.proofs.law.nothing_begins_while_stopped.Goals as goal

pub returns : goal.returns
returns c = nothing_begins
