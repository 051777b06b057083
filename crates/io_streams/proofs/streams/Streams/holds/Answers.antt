use Rattle.io_streams.proofs.LeftLemmas.{whole}
use Rattle.io_streams.proofs.streams.Streams.holds.Goals as goal

pub returns : goal.returns
returns g c = rw (← c.self.view_is) (whole _ _ c.self.invariant _)
