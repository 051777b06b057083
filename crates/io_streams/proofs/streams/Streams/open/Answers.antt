use Rattle.std.proofs.Common.{arith}
use Rattle.io_streams.proofs.CallLemmas.{there}
use Rattle.io_streams.proofs.KeptLemmas.{open_seen}
use Rattle.io_streams.proofs.streams.Streams.open.Goals as goal

pub index_mut-requires : goal.index_mut-requires
index_mut-requires g c =
    let within = there _ _ c.self.invariant c.args.name (rw (← c.self.view_is) at c.requires.within) in
    omega (arith, within)

pub returns : goal.returns
returns g c =
    rw (← c.self.view_is)
    (open_seen _ _ c.self.invariant c.args.name c.args.listener c.args.linked _
    (rw (← c.self.view_is) at c.requires.idle))
