use Rattle.std.proofs.Common.{arith}
use Rattle.io_handlers.proofs.RoomLemmas.{has_room-called, room_left}
use Rattle.io_handlers.proofs.staging.Staging.stage.Goals as goal

pub invariant_of-self : goal.invariant_of-self
invariant_of-self g c =
    rw (c.push_back_reserved.ensures.items, c.push_back_reserved.ensures.capacity, c.room_after-self-inside.ensures)
    (has_room-called _ _ _ c.args.call c.self.invariant (rw (← c.self.view_is) at c.requires.may) c.requires.offered)

pub push_back_reserved-requires : goal.push_back_reserved-requires
push_back_reserved-requires g c =
    let left = room_left _ _ _ c.self.invariant (rw (← c.self.view_is) at c.requires.may) in omega (arith, left)
