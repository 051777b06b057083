use Rattle.io_scheduler.proofs.FirstLemmas.{vacant_idle}
use Rattle.io_scheduler.proofs.making.make_strands.Goals as goal

pub destroy_all-requires : goal.destroy_all-requires
destroy_all-requires g c = vacant_idle _ _ _ c.places.invariant.0
