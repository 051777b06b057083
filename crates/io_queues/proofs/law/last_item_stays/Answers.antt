use Rattle.io_queues.proofs.ItemLemmas.{last_stays}
use Rattle.io_queues.proofs.law.last_item_stays.Goals as goal

pub returns : goal.returns
returns g c = last_stays
