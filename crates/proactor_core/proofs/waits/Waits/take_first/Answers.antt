use Rattle.std.proofs.Common.{◌<◌, ℕ, length, map, set, deque_capacity, deque_items, ap, sym, ◌∙◌, arith}
use Rattle.std.proofs.lemmas.List.{get_or_default, length-map, map-set}
use Rattle.proactor_core.specs.Waits.{Waiting}
use Rattle.proactor_core.proofs.RemovalLemmas.{IsFirstOf, fewer, first-of, left-queue, remove-room, takes-first}
use Rattle.proactor_core.proofs.WaitLemmas.{map-set_same, read-at}
use Rattle.proactor_core.proofs.waits.Waits.take_first.Goals as goal
use Rattle.proactor_core.proofs.waits.Waits.take_first.Goals.{After-remove}

pub invariant_of-self : goal.invariant_of-self
invariant_of-self c =
    let seen = ap (λ (w : Waiting). length w.expiries) c.self.view_is in
    let long = length-map c.self.inside.of_timer.items (deque_items {X = ℕ}) in
    let lengths = c.self.invariant.lengths in
    let within : c.args.timer < length c.self.inside.of_timer.items = omega (arith, c.requires) in
    let same =
    map-set_same deque_items c.self.inside.of_timer.items c.args.timer c.pop_front.new.self within
    (sym c.in_default.ensures.items
    ∙ ap deque_items (c.index_mut-waiting.ensures.value ∙ get_or_default _ _ _ _ within)) in
    rw same c.self.invariant

pub returns-in_default-clause-unchanged : goal.returns-in_default-clause-unchanged
returns-in_default-clause-unchanged c =
    let seen = ap (λ (w : Waiting). length w.expiries) c.self.view_is in
    let long = length-map c.self.inside.of_timer.items (deque_items {X = ℕ}) in
    let lengths = c.self.invariant.lengths in
    let within : c.args.timer < length c.self.inside.of_timer.items = omega (arith, c.requires) in
    let same =
    map-set_same deque_capacity c.self.inside.of_timer.items c.args.timer c.pop_front.new.self within
    (c.in_default.ensures.capacity
    ∙ ap deque_capacity (c.index_mut-waiting.ensures.value ∙ get_or_default _ _ _ _ within)) in
    rw same c.self.view_is

within : (c : After-remove) → c.args.timer < length c.self.inside.of_timer.items
within c =
    let seen = ap (λ (w : Waiting). length w.expiries) c.self.view_is in
    let long = length-map c.self.inside.of_timer.items (deque_items {X = ℕ}) in
    let lengths = c.self.invariant.lengths in
    omega (arith, c.requires)

first : (c : After-remove) →
    IsFirstOf c.args.timer c.in-Some.op c.self.inside.timer_of.items c.self.inside.queue.waits
    c.pop_front.new.self.items
first c =
    let at =
    read-at deque_items c.self.inside.of_timer.items c.args.timer c.index_mut-waiting.result.now (within c)
    c.index_mut-waiting.ensures.value in
    let long = length-map c.self.inside.of_timer.items (deque_items {X = ℕ}) in
    let here = within c in
    first-of c.args.timer c.in-Some.op c.self.inside.timer_of.items c.self.inside.queue.waits c.pop_front.new.self.items
    c.self.invariant.once
    (sym (c.self.invariant.listed c.args.timer (omega arith)) ∙ sym at ∙ c.in-Some.ensures.items)

pub overflow_sub-self : goal.overflow_sub-self
overflow_sub-self c =
    let less = fewer _ _ c.self.inside.queue _ _ _ c.in-Some.op c.self.invariant (first c).there in
    let count = c.self.invariant.count in
    omega arith

pub invariant_of-self-2 : goal.invariant_of-self-2
invariant_of-self-2 c =
    let is = first (goal.at.invariant_of-self-2 c).After-remove in
    let long = length-map c.self.inside.of_timer.items (deque_items {X = ℕ}) in
    let here = within (goal.at.invariant_of-self-2 c).After-remove in
    let room =
    remove-room c.in-Some.op c.self.inside.queue.waits c.remove.result c.remove.new.self.spare c.self.inside.queue.spare
    (λ any. c.remove.ensures.there.1 any) c.remove.ensures.room is.there in
    left-queue c.self.inside.expiries.items c.self.inside.timer_of.items c.self.inside.queue
    (map deque_items c.self.inside.of_timer.items) c.self.inside.accepted c.self.inside.pending c.in-Some.op
    c.self.invariant is.there c.remove.new.self c.args.timer c.pop_front.new.self.items
    (map deque_items (set c.self.inside.of_timer.items c.args.timer c.pop_front.new.self)) c.remove.ensures.waits room
    is.here (omega arith) is.after
    (map-set deque_items c.self.inside.of_timer.items c.args.timer c.pop_front.new.self)

pub returns-clause-first : goal.returns-clause-first
returns-clause-first c =
    let is = first (goal.at.returns-clause-first c).After-remove in
    let here = within (goal.at.returns-clause-first c).After-remove in
    let same =
    map-set_same deque_capacity c.self.inside.of_timer.items c.args.timer c.pop_front.new.self here
    (c.in-Some.ensures.capacity ∙ ap deque_capacity (c.index_mut-waiting.ensures.value ∙ get_or_default _ _ _ _ here))
    in
    rw (← c.self.view_is) (takes-first c.args.timer c.in-Some.op c.self.inside.expiries.items
    c.self.inside.timer_of.items c.self.inside.queue.waits c.remove.new.self.waits c.self.inside.accepted
    (length c.self.inside.timer_of.items) (map deque_capacity c.self.inside.of_timer.items)
    (map deque_capacity (set c.self.inside.of_timer.items c.args.timer c.pop_front.new.self))
    c.pop_front.new.self.items is c.remove.ensures.waits same)
