use Rattle.std.proofs.Common.{arith}
use Rattle.io_handlers.proofs.RoomLemmas.{has_room-made}
use Rattle.io_handlers.proofs.staging.Staging.make_strand.Goals as goal

pub invariant_of-self : goal.invariant_of-self
invariant_of-self g c =
    rw (c.push_back_reserved.ensures.items, c.push_back_reserved.ensures.capacity, c.without_spare-self-inside.ensures)
    (has_room-made _ _ _ c.args.name c.args.state c.self.invariant (rw (← c.self.view_is) at c.requires.room)
    (rw (← c.self.view_is) at c.requires.kept))

pub push_back_reserved-requires : goal.push_back_reserved-requires
push_back_reserved-requires g c =
    let calls = c.self.invariant.calls in let anew = c.self.invariant.anew in
    let room = rw (← c.self.view_is) at c.requires.room in omega (arith, calls, anew, room)
