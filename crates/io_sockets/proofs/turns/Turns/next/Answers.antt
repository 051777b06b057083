use Rattle.std.proofs.Common.{arith, subst}
use Rattle.std.proofs.lemmas.List.{get_or_read}
use Rattle.std.specs.VecDeque.{deque_capacity}
use Rattle.io_sockets.specs.Turns.{IsTurnList, unlisted}
use Rattle.io_sockets.proofs.TurnLemmas.{first_within, turn_less}
use Rattle.io_sockets.proofs.turns.Turns.next.Goals as goal

pub index-listed-requires : goal.index-listed-requires
index-listed-requires c =
    let within = first_within c.in-Some.first c.pop_front.new.self.items c.self.inside.listed.items (deque_capacity c.self.inside.ring)
    (subst (λ ring. IsTurnList (deque_capacity c.self.inside.ring) (record { ring = ring; listed = c.self.inside.listed.items }))
    c.in-Some.ensures.items c.self.invariant) in
    omega (arith, within)

pub index_mut-requires : goal.index_mut-requires
index_mut-requires c =
    let within = first_within c.in-Some.first c.pop_front.new.self.items c.self.inside.listed.items (deque_capacity c.self.inside.ring)
    (subst (λ ring. IsTurnList (deque_capacity c.self.inside.ring) (record { ring = ring; listed = c.self.inside.listed.items }))
    c.in-Some.ensures.items c.self.invariant) in
    omega (arith, within)

pub invariant_of-self-in-Some : goal.invariant_of-self-in-Some
invariant_of-self-in-Some c =
    let kept = subst (λ ring. IsTurnList (deque_capacity c.self.inside.ring) (record { ring = ring; listed = c.self.inside.listed.items }))
    c.in-Some.ensures.items c.self.invariant in
    let within = first_within c.in-Some.first c.pop_front.new.self.items c.self.inside.listed.items (deque_capacity c.self.inside.ring) kept in
    let read = get_or_read c.self.inside.listed.items c.in-Some.first.place c.index-listed.result.now within c.index-listed.ensures unlisted in
    rw (c.in-Some.ensures.capacity, c.flagged.ensures, read)
    (turn_less c.in-Some.first c.pop_front.new.self.items c.self.inside.listed.items (deque_capacity c.self.inside.ring) kept)

pub returns-in-Some-clause-within : goal.returns-in-Some-clause-within
returns-in-Some-clause-within c =
    rw (← c.self.view_is)
    (first_within c.in-Some.first c.pop_front.new.self.items c.self.inside.listed.items (deque_capacity c.self.inside.ring)
    (subst (λ ring. IsTurnList (deque_capacity c.self.inside.ring) (record { ring = ring; listed = c.self.inside.listed.items }))
    c.in-Some.ensures.items c.self.invariant))
