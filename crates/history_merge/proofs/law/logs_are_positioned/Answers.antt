use Rattle.history_merge.proofs.PositionLemmas.{positioned}
use Rattle.history_merge.proofs.law.logs_are_positioned.Goals as goal

pub returns : goal.returns
returns c = λ names logs are.
    positioned names logs are (c.positions_are_drawn_once.ensures logs.lists _ logs.last are.closed)
