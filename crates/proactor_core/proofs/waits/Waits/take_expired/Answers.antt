use Rattle.std.proofs.Common.{◌≡◌, ◌<◌, ℕ, [], length, map, set, get_or, drop, deque_capacity, deque_items, refl, ap, sym, ◌∙◌, arith}
use Rattle.std.proofs.lemmas.List.{get_or_default, length-map, map-set}
use Rattle.proactor_core.specs.Waits.{ops_of}
use Rattle.proactor_core.proofs.ExpiredLemmas.{first-each, first-ops, first-timer, none-come, popped, takes-expired}
use Rattle.proactor_core.proofs.WaitLemmas.{map-set_same, read-at}
use Rattle.proactor_core.proofs.waits.Waits.take_expired.Goals as goal
use Rattle.proactor_core.proofs.waits.Waits.take_expired.Goals.{After-index-timer}

pub returns-in_default-clause-none : goal.returns-in_default-clause-none
returns-in_default-clause-none c =
    rw (← c.self.view_is) (none-come c.args.now c.self.inside.expiries.items c.self.inside.timer_of.items
    c.self.inside.queue.waits (λ k d b. (c.self.invariant.each k d b).expiry) c.in_default.ensures.none)

-- the timer that was read is that of the wait
timer-is : (c : After-index-timer) →
    c.index-timer.result.now ≡ get_or c.self.inside.timer_of.items c.in-Some.ensures.first.wait.op 0
timer-is c =
    let taken = c.in-Some.ensures.first in
    let op = taken.is_op in
    let each =
    first-each c.self.inside.expiries.items c.self.inside.timer_of.items c.self.inside.queue
    (map deque_items c.self.inside.of_timer.items) c.self.inside.accepted c.self.inside.pending c.self.invariant
    taken.wait c.pop_due.new.queue.waits taken.leaves taken.is_first in
    let within : c.in-Some.op < length c.self.inside.timer_of.items = let b = each.op in omega arith in
    c.index-timer.ensures ∙ get_or_default c.self.inside.timer_of.items c.in-Some.op c.index-timer.result.now 0 within
    ∙ ap (λ n. get_or c.self.inside.timer_of.items n 0) (sym op)

within : (c : After-index-timer) → c.index-timer.result.now < length c.self.inside.of_timer.items
within c =
    let taken = c.in-Some.ensures.first in
    let b =
    first-timer c.self.inside.expiries.items c.self.inside.timer_of.items c.self.inside.queue
    (map deque_items c.self.inside.of_timer.items) c.self.inside.accepted c.self.inside.pending c.self.invariant
    taken.wait c.pop_due.new.queue.waits taken.leaves taken.is_first in
    let long = length-map c.self.inside.of_timer.items (deque_items {X = ℕ}) in
    let is = timer-is c in
    omega arith

pub invariant_of-self-2 : goal.invariant_of-self-2
invariant_of-self-2 c =
    let before = (goal.at.invariant_of-self-2 c).After-index-timer in
    let taken = c.in-Some.ensures.first in
    let queues = map deque_items c.self.inside.of_timer.items in
    let left = map deque_items (set c.self.inside.of_timer.items c.index-timer.result.now c.pop_front.new.self) in
    let written =
    map-set deque_items c.self.inside.of_timer.items c.index-timer.result.now c.pop_front.new.self
    ∙ ap (λ t. set queues t c.pop_front.new.self.items) (timer-is before) in
    let at =
    read-at deque_items c.self.inside.of_timer.items c.index-timer.result.now c.index_mut-waiting.result.now
    (within before) c.index_mut-waiting.ensures.value in
    let ops =
    first-ops c.self.inside.expiries.items c.self.inside.timer_of.items c.self.inside.queue queues
    c.self.inside.accepted c.self.inside.pending c.self.invariant taken.wait c.pop_due.new.queue.waits taken.leaves
    taken.is_first in
    let rest : c.pop_front.new.self.items
    ≡ ops_of (get_or c.self.inside.timer_of.items taken.wait.op 0) c.self.inside.timer_of.items c.pop_due.new.queue.waits =
    c.pop_front.ensures.rest ∙ ap (drop 1) (at ∙ ap (λ t. get_or queues t []) (timer-is before) ∙ ops) in
    popped c.self.inside.expiries.items c.self.inside.timer_of.items c.self.inside.queue queues c.self.inside.accepted
    c.self.inside.pending c.self.invariant taken.wait c.pop_due.new.queue.waits taken.leaves taken.is_first
    c.pop_due.new.queue c.pop_front.new.self.items left refl c.in-Some.ensures.room rest written

pub returns-clause-first : goal.returns-clause-first
returns-clause-first c =
    let taken = c.in-Some.ensures.first in
    let here = within (goal.at.returns-clause-first c).After-index-timer in
    let same =
    map-set_same deque_capacity c.self.inside.of_timer.items c.index-timer.result.now c.pop_front.new.self here
    (c.pop_front.ensures.capacity
    ∙ ap deque_capacity (c.index_mut-waiting.ensures.value ∙ get_or_default _ _ _ _ here)) in
    rw (← c.self.view_is) (takes-expired c.self.inside.expiries.items c.self.inside.timer_of.items c.self.inside.queue
    (map deque_items c.self.inside.of_timer.items) c.self.inside.accepted c.self.inside.pending c.self.invariant
    taken.wait c.pop_due.new.queue.waits taken.leaves taken.is_first c.args.now c.in-Some.op
    c.pop_due.new.queue.waits (length c.self.inside.timer_of.items)
    (map deque_capacity c.self.inside.of_timer.items)
    (map deque_capacity (set c.self.inside.of_timer.items c.index-timer.result.now c.pop_front.new.self))
    taken.is_op taken.is_due refl same)
