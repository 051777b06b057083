use Rattle.std.proofs.Common.{◌≡◌, ◌<◌, ◌++◌, length, take, drop, arith, true}
use Rattle.reactor_trait.proofs.ReactorLemmas.{state_at-moved}
use Rattle.stream_rules.proofs.PlayingLemmas.{within-at, HasRoom-due, written, IsPlaying-moved, moves-forward}
use Rattle.reactor_mio.proofs.playing.Playing.advance.Goals as goal
use Rattle.reactor_mio.proofs.playing.Playing.advance.Goals.{In-Time, After-perform_due}

-- time moves forward, since the limit is ahead
forward : (c : In-Time) → c.self.inside.schedule.time < c.in-Time.field-0
forward c =
    let s = c.self.inside in
    let to = c.advance-point in
    let ahead = rw (← c.self.view_is) at c.requires in
    moves-forward c.args.limit s.schedule to.result c.in-Time.field-0 ahead c.in-Time.is to.ensures.answer

-- the schedule stands at the new time
is-time : (c : In-Time) → c.advance-point.new.self.time ≡ c.in-Time.field-0
is-time c = rw c.in-Time.is at c.advance-point.ensures.time

-- the vector holds the pipes that the lines were performed on
are-pipes : (c : After-perform_due) →
    take c.self.inside.pipes.len
    (c.perform_due.new.pipes ++ drop (length c.perform_due.new.pipes) c.self.inside.pipes.items)
    ≡ c.perform_due.new.pipes
are-pipes c =
    let pipes = c.self.inside.pipes in
    let long = rw c.as_mut_slice.ensures.value at c.perform_due.auto.pipes in
    written pipes.len pipes.items c.perform_due.new.pipes (omega (arith, pipes.ok.0)) long

pub perform_due-requires-clause-within : goal.perform_due-requires-clause-within
perform_due-requires-clause-within c =
    let s = c.self.inside in
    let to = c.advance-point in
    let all = within-at to.new.self.time (length s.pipes.items) s.schedule.lines c.self.invariant.within in
    rw (to.ensures.lines, c.as_mut_slice.ensures.value) all

pub perform_due-requires-clause-room : goal.perform_due-requires-clause-room
perform_due-requires-clause-room c =
    let s = c.self.inside in
    let to = c.advance-point in
    let time = (goal.at.perform_due-requires-clause-room c).In-Time in
    rw c.as_mut_slice.ensures.value (HasRoom-due s.last s.closed.items s.schedule to.new.self c.in-Time.field-0
    s.pipes.items c.self.invariant (forward time) (is-time time) to.ensures.lines)

pub invariant_of-self : goal.invariant_of-self
invariant_of-self c =
    let s = c.self.inside in
    let to = c.advance-point in
    let at = goal.at.invariant_of-self c in
    let long = rw c.as_mut_slice.ensures.value at c.perform_due.auto.pipes in
    let uses = rw c.as_mut_slice.ensures.value at c.perform_due.ensures.room in
    let marks = rw c.as_mut_slice.ensures.value at c.perform_due.ensures.marked in
    rw (are-pipes at.After-perform_due) (IsPlaying-moved s.last s.closed.items s.schedule to.new.self c.in-Time.field-0
    s.pipes.items c.perform_due.new.pipes c.self.invariant (forward at.In-Time) (is-time at.In-Time)
    to.ensures.lines uses long marks)

pub returns-in-Time-clause-state : goal.returns-in-Time-clause-state
returns-in-Time-clause-state c =
    let s = c.self.inside in
    let to = c.advance-point in
    let ahead = rw (← c.self.view_is) at c.requires in
    rw (← c.self.view_is) (state_at-moved true s.last s.closed.items c.args.limit c.in-Time.field-0 s.schedule
    to.new.self to.result ahead c.in-Time.is to.ensures.answer to.ensures.time to.ensures.lines)
