use Rattle.std.proofs.Common.{arith}
use Rattle.io_handlers.proofs.RoomLemmas.{has_room-changed}
use Rattle.io_handlers.proofs.staging.Staging.change.Goals as goal

pub invariant_of-self : goal.invariant_of-self
invariant_of-self g c =
    rw (c.push_back_reserved.ensures.items, c.push_back_reserved.ensures.capacity, c.left_by-self-inside.ensures)
    (has_room-changed _ _ _ c.args.change c.self.invariant (omega arith) c.requires.offered
    (rw (← c.self.view_is) at c.requires.made))

pub push_back_reserved-requires : goal.push_back_reserved-requires
push_back_reserved-requires g c = let calls = c.self.invariant.calls in let anew = c.self.invariant.anew in omega (arith, calls, anew)
