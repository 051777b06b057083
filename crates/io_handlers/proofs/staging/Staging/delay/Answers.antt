use Rattle.std.proofs.Common.{arith}
use Rattle.io_handlers.proofs.RoomLemmas.{has_room-delayed}
use Rattle.io_handlers.proofs.staging.Staging.delay.Goals as goal

pub invariant_of-self : goal.invariant_of-self
invariant_of-self g c =
    rw (c.push_back_reserved.ensures.items, c.push_back_reserved.ensures.capacity)
    (has_room-delayed _ _ _ c.args.timer c.args.after c.self.invariant (omega arith))

pub push_back_reserved-requires : goal.push_back_reserved-requires
push_back_reserved-requires g c = let calls = c.self.invariant.calls in let anew = c.self.invariant.anew in omega (arith, calls, anew)
