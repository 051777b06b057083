use Rattle.io_handlers.proofs.RoomLemmas.{has_room-next}
use Rattle.io_handlers.proofs.staging.Staging.next.Goals as goal

pub invariant_of-self-in-Some : goal.invariant_of-self-in-Some
invariant_of-self-in-Some g c =
    rw (c.pop_front.ensures.capacity, c.left_by-self-inside.ensures)
    (has_room-next _ _ _ c.in-Some.call _ c.in-Some.ensures.items c.self.invariant)
