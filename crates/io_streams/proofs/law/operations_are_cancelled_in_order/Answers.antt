use Rattle.io_streams.proofs.InOrderLemmas.{cancelled_in_order}
use Rattle.io_streams.proofs.law.operations_are_cancelled_in_order.Goals as goal

pub returns : goal.returns
returns g c = cancelled_in_order
