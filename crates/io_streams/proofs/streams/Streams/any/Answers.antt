use Rattle.io_streams.proofs.KeptLemmas.{all_empty, if_none}
use Rattle.io_streams.proofs.LeftLemmas.{first_there}
use Rattle.io_streams.proofs.streams.Streams.any.Goals as goal

pub returns-in_err-queue-in-None-clause-none : goal.returns-in_err-queue-in-None-clause-none
returns-in_err-queue-in-None-clause-none g c =
    rw (← c.self.view_is)
    (if_none c.from_residual.result _ (all_empty _ c.in_err-queue-in-None.ensures.none))

pub returns-clause-there : goal.returns-clause-there
returns-clause-there g c =
    rw (← c.self.view_is) (first_there _ _ c.self.invariant _ c.first.result c.first.ensures)
