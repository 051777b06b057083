use Rattle.io_sockets.proofs.LostLemmas.{none_lost}
use Rattle.io_sockets.proofs.law.no_readiness_is_lost.Goals as goal

pub returns : goal.returns
returns c = none_lost
