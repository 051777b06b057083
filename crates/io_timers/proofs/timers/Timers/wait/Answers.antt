use Rattle.std.proofs.Common.{refl, arith}
use Rattle.std.proofs.lemmas.List.{length-map}
use Rattle.io_timers.specs.Pending.{timer_with}
use Rattle.io_timers.proofs.TimersLemmas.{free_place, pushed_apart, wait_kept, wait_seen}
use Rattle.io_timers.proofs.timers.Timers.wait.Goals as goal

pub note_first-requires-clause-apart : goal.note_first-requires-clause-apart
note_first-requires-clause-apart g c =
    let many = length-map c.self.inside.expiries.items timer_with in
    let within = rw (← c.self.view_is) at c.requires.within in
    rw c.push_back-place.ensures.pushed
    (pushed_apart _ _ _ c.self.invariant c.args.timer.place _ (omega (arith, within, many))
    (rw (← c.self.view_is) at c.requires.last) c.push_back-place.ensures.free refl)

pub invariant_of-self : goal.invariant_of-self
invariant_of-self g c =
    let many = length-map c.self.inside.expiries.items timer_with in
    let within = rw (← c.self.view_is) at c.requires.within in
    rw (c.note_first.ensures, c.push_back-place.ensures.pushed)
    (wait_kept _ _ _ c.self.invariant c.args.timer.place _ (omega (arith, within, many))
    (rw (← c.self.view_is) at c.requires.last) c.push_back-place.ensures.free refl)

pub returns-clause-free : goal.returns-clause-free
returns-clause-free g c =
    let many = length-map c.self.inside.expiries.items timer_with in
    let within = rw (← c.self.view_is) at c.requires.within in
    rw (← c.self.view_is)
    (free_place _ _ _ c.self.invariant c.args.timer.place
    (record { place = c.push_back-place.result; item = record { op = c.args.op; timer = c.args.timer; item = c.args.item } })
    (omega (arith, within, many)) (rw (← c.self.view_is) at c.requires.last) c.push_back-place.ensures.free refl)

pub returns-clause-accepted : goal.returns-clause-accepted
returns-clause-accepted g c =
    let many = length-map c.self.inside.expiries.items timer_with in
    let within = rw (← c.self.view_is) at c.requires.within in
    rw (← c.self.view_is, c.push_back-place.ensures.pushed)
    (wait_seen _ _ _ c.self.invariant c.args.timer.place _ _ (omega (arith, within, many))
    (rw (← c.self.view_is) at c.requires.last))

pub push_back-place-requires-clause-queue : goal.push_back-place-requires-clause-queue
push_back-place-requires-clause-queue g c =
    let many = length-map c.self.inside.expiries.items timer_with in
    let within = rw (← c.self.view_is) at c.requires.within in
    let as_many = c.self.invariant.as_many in
    omega (arith, within, many, as_many)

pub push_back-place-requires-clause-room : goal.push_back-place-requires-clause-room
push_back-place-requires-clause-room g c = rw (← c.self.view_is) at c.requires.room

pub note_first-requires-clause-expiries : goal.note_first-requires-clause-expiries
note_first-requires-clause-expiries g c =
    let many = length-map c.self.inside.expiries.items timer_with in
    let within = rw (← c.self.view_is) at c.requires.within in
    omega (arith, within, many)

pub note_first-requires-clause-leaves : goal.note_first-requires-clause-leaves
note_first-requires-clause-leaves g c =
    let many = length-map c.self.inside.expiries.items timer_with in
    let within = rw (← c.self.view_is) at c.requires.within in
    let as_many = c.self.invariant.leaves_many in
    omega (arith, within, many, as_many)
