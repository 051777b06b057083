use Rattle.std.proofs.Common.{subst}
use Rattle.std.specs.VecDeque.{deque_capacity}
use Rattle.io_jobs.specs.Listed.{AreListed, IsJobList}
use Rattle.io_jobs.proofs.ListedLemmas.{first_among, first_taken}
use Rattle.io_jobs.proofs.jobs.Jobs.next.Goals as goal

pub unlist-requires : goal.unlist-requires
unlist-requires g c =
    first_among _ _ _
    (subst (λ ring. AreListed ring c.self.inside.listed.items) c.in-Some.ensures.items c.self.invariant.0.strands)

pub invariant_of-self-in-Some : goal.invariant_of-self-in-Some
invariant_of-self-in-Some g c = (
  rw (c.unlist.ensures, c.in-Some.ensures.capacity)
      (first_taken _ _ c.in-Some.first _ _
      (subst (λ ring. IsJobList (deque_capacity c.self.inside.ring)
      (record { ring = ring; listed = c.self.inside.listed.items; room = c.self.inside.room }))
      c.in-Some.ensures.items c.self.invariant.0)),
  c.self.invariant.1,
  c.self.invariant.2,
)
