use Rattle.std.proofs.Common.{arith}
use Rattle.io_rules.specs.Legal.{state_of}
use Rattle.io_scheduler.proofs.DroppedLemmas.{none_left}
use Rattle.io_scheduler.proofs.remains.Remains.into_parts.Goals as goal

pub destroy_empty-requires : goal.destroy_empty-requires
destroy_empty-requires g c =
    let none = none_left g.H.Handler.marks c.self.inside.left.items
    (state_of g.C.Named.limits c.self.inside.keeper.past).ops c.self.invariant.2
    (rw (← c.self.view_is) at c.requires) in
    omega (arith, none)
