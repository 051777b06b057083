use Rattle.io_streams.proofs.LeftLemmas.{taken_found, there_queued}
use Rattle.io_streams.proofs.streams.Streams.get.Goals as goal

pub get-requires : goal.get-requires
get-requires g c = there_queued _ _ c.self.invariant c.args.place (rw (← c.self.view_is) at c.requires)

pub returns : goal.returns
returns g c = rw (← c.self.view_is) (taken_found _ _ c.self.invariant c.args.place _ c.get.ensures)
