use Rattle.std.proofs.Common.{◌∙◌, arith}
use Rattle.stream_rules.proofs.PipeLemmas.{HasRoom-at}
use Rattle.stream_rules.proofs.PlayingLemmas.{within-first, written, IsPlaying-first}
use Rattle.reactor_mio.proofs.playing.set_over.Goals as goal

pub perform_due-requires-clause-within : goal.perform_due-requires-clause-within
perform_due-requires-clause-within c =
    let world = c.args.world.now in
    let schedule = c.in_ok-schedule in
    let lines = schedule.ensures.lines ∙ c.as_slice-lines.ensures in
    let all =
    within-first schedule.schedule.time world.streams world.lines c.in_ok-pipes.pipes.items c.requires
    c.in_ok-pipes.ensures.streams in
    rw (lines, c.as_mut_slice.ensures.value) all

pub perform_due-requires-clause-room : goal.perform_due-requires-clause-room
perform_due-requires-clause-room c =
    let schedule = c.in_ok-schedule in
    let room = rw (← schedule.ensures.lines) at c.in_ok-pipes.ensures.room in
    rw c.as_mut_slice.ensures.value (HasRoom-at schedule.schedule.time schedule.schedule.lines c.in_ok-pipes.pipes.items room)

pub invariant_of-result : goal.invariant_of-result
invariant_of-result c =
    let world = c.args.world.now in
    let schedule = c.in_ok-schedule in
    let pipes = c.in_ok-pipes.pipes in
    let room = rw (← schedule.ensures.lines) at c.in_ok-pipes.ensures.room in
    let lines = schedule.ensures.lines ∙ c.as_slice-lines.ensures in
    let long = rw c.as_mut_slice.ensures.value at c.perform_due.auto.pipes in
    let whole = written pipes.len pipes.items c.perform_due.new.pipes (omega (arith, pipes.ok.0)) long in
    let uses = rw c.as_mut_slice.ensures.value at c.perform_due.ensures.room in
    rw whole (IsPlaying-first c.in_ok-closed.closed.items schedule.schedule world.streams pipes.items
    c.perform_due.new.pipes c.in_ok-closed.ensures schedule.ensures.time (rw lines c.requires)
    c.in_ok-pipes.ensures.streams room uses long)
