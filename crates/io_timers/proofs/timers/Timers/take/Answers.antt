use Rattle.std.proofs.Common.{◌≡◌, is_some, true, subst, arith}
use Rattle.std.proofs.lemmas.List.{length-map}
use Rattle.io_queues.specs.Queued.{others}
use Rattle.io_timers.proofs.FirstLemmas.{taken_found, taken_there}
use Rattle.io_timers.proofs.FoundLemmas.{found-in_order, in-numbered}
use Rattle.io_timers.proofs.TimersLemmas.{left_apart, left_kept, left_seen, timer_within}
use Rattle.io_timers.proofs.timers.Timers.take.Goals as goal

pub remove-wait-requires : goal.remove-wait-requires
remove-wait-requires g c =
    subst (λ o. is_some o ≡ true) (found-in_order c.args.place c.self.inside.queues.queues c.self.invariant.apart)
    (rw (← c.self.view_is) at c.requires)

pub note_first-requires-clause-expiries : goal.note_first-requires-clause-expiries
note_first-requires-clause-expiries g c =
    timer_within _ _ _ c.self.invariant _ (taken_there _ _ _ c.self.invariant _ _ c.remove-wait.ensures.item)

pub note_first-requires-clause-queues : goal.note_first-requires-clause-queues
note_first-requires-clause-queues g c =
    let within = timer_within _ _ _ c.self.invariant _ (taken_there _ _ _ c.self.invariant _ _ c.remove-wait.ensures.item) in
    let many = c.self.invariant.as_many in
    let same = length-map c.self.inside.queues.queues (others c.args.place) in
    rw c.remove-wait.ensures.removed (omega (arith, within, many, same))

pub note_first-requires-clause-leaves : goal.note_first-requires-clause-leaves
note_first-requires-clause-leaves g c =
    let within = timer_within _ _ _ c.self.invariant _ (taken_there _ _ _ c.self.invariant _ _ c.remove-wait.ensures.item) in
    let many = c.self.invariant.leaves_many in
    omega (arith, within, many)

pub note_first-requires-clause-apart : goal.note_first-requires-clause-apart
note_first-requires-clause-apart g c =
    rw c.remove-wait.ensures.removed
    (left_apart _ _ _ c.self.invariant _ (taken_there _ _ _ c.self.invariant _ _ c.remove-wait.ensures.item))

pub invariant_of-self : goal.invariant_of-self
invariant_of-self g c =
    let there = taken_there _ _ _ c.self.invariant _ _ c.remove-wait.ensures.item in
    rw (c.note_first.ensures, c.remove-wait.ensures.removed)
    (left_kept _ _ _ c.self.invariant _ there (timer_within _ _ _ c.self.invariant _ there))

pub returns-clause-found : goal.returns-clause-found
returns-clause-found g c =
    rw (← c.self.view_is) (taken_found _ _ _ c.self.invariant _ _ c.remove-wait.ensures.item)

pub returns-clause-numbered : goal.returns-clause-numbered
returns-clause-numbered g c =
    rw (← c.self.view_is)
    (in-numbered _ _ c.self.invariant.rises (taken_there _ _ _ c.self.invariant _ _ c.remove-wait.ensures.item))

pub returns-clause-taken : goal.returns-clause-taken
returns-clause-taken g c =
    rw (← c.self.view_is, c.remove-wait.ensures.removed)
    (left_seen _ _ _ c.self.invariant _ _ (taken_there _ _ _ c.self.invariant _ _ c.remove-wait.ensures.item))
