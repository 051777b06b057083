use Rattle.std.proofs.Common.{arith}
use Rattle.io_jobs.proofs.ListedLemmas.{added_more, room_added}
use Rattle.io_jobs.proofs.jobs.Jobs.add.Goals as goal

pub push_back_reserved-requires : goal.push_back_reserved-requires
push_back_reserved-requires g c =
    let room = room_added _ _ c.self.invariant.0 (rw (← c.self.view_is) at c.requires) in omega (arith, room)

pub invariant_of-self : goal.invariant_of-self
invariant_of-self g c = (
  rw (c.push_back_reserved.ensures.items, c.push_back_reserved.ensures.capacity)
      (added_more _ _ c.args.op c.self.invariant.0 (rw (← c.self.view_is) at c.requires)),
  c.self.invariant.1,
  c.self.invariant.2,
)
