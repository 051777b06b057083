use Rattle.std.proofs.Common.{◌≡◌, ◌<◌, length, arith}
use Rattle.history_book.proofs.PlayedLemmas.{written, within-at, moves-forward, moved-to, HasRoom-due, IsPlayed-moved}
use Rattle.stream_rules.specs.World.{next_point, times_after}
use Rattle.history_book.proofs.played.PlayedWorld.tick.Goals as goal
use Rattle.history_book.proofs.played.PlayedWorld.tick.Goals.{After-advance}

forward : (c : After-advance) → c.self.inside.schedule.time < c.args.time
forward c =
    let s = c.self.inside.schedule in
    let next = rw (← c.self.view_is) at c.requires.next in
    let ahead = rw (← c.self.view_is) at c.requires.ahead in
    moves-forward c.args.limit s c.args.time ahead next

is-time : (c : After-advance) → c.advance.new.self.time ≡ c.args.time
is-time c =
    let s = c.self.inside.schedule in
    let next = rw (← c.self.view_is) at c.requires.next in
    moved-to c.advance.result (next_point c.args.limit (times_after s.time s.lines)) c.args.time s.time
    c.advance.new.self.time c.advance.ensures.answer next c.advance.ensures.time

pub perform_due-requires-clause-within : goal.perform_due-requires-clause-within
perform_due-requires-clause-within c =
    let s = c.self.inside in
    let all =
    within-at c.advance.new.self.time (length s.pipes.items) s.schedule.lines (c.self.invariant.within c.if-self.true) in
    rw (c.advance.ensures.lines, c.as_mut_slice.ensures.value) all

pub perform_due-requires-clause-room : goal.perform_due-requires-clause-room
perform_due-requires-clause-room c =
    let s = c.self.inside in
    let at = (goal.at.perform_due-requires-clause-room c).After-advance in
    rw c.as_mut_slice.ensures.value (HasRoom-due s.schedule c.advance.new.self c.args.time s.pipes.items
    (c.self.invariant.room c.if-self.true) (forward at) (is-time at) c.advance.ensures.lines)

pub invariant_of-self : goal.invariant_of-self
invariant_of-self c =
    let s = c.self.inside in
    let at = (goal.at.invariant_of-self c).After-advance in
    let long = rw c.as_mut_slice.ensures.value at c.perform_due.auto.pipes in
    let uses = rw c.as_mut_slice.ensures.value at c.perform_due.ensures.room in
    rw (written s.pipes.len s.pipes.items c.perform_due.new.pipes (omega (arith, s.pipes.ok.0)) long)
    (IsPlayed-moved s.told s.schedule c.advance.new.self c.args.time s.pipes.items c.perform_due.new.pipes
    c.if-self.true c.self.invariant (forward at) (is-time at) c.advance.ensures.lines uses long)
