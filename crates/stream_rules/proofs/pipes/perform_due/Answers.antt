use Rattle.std.proofs.Common.{◌<◌, sym, ap, ◌∙◌, length, map, arith}
use Rattle.stream_rules.specs.Stream.{line_performed}
use Rattle.stream_rules.specs.World.{lines_at, changed_at}
use Rattle.stream_rules.specs.Pipes.{pipe_stream}
use Rattle.stream_rules.proofs.PipeLemmas.{changed-set, perform-more, room-bytes, room-room, uses-more, marked-set, within-due}
use Rattle.stream_rules.proofs.pipes.perform_due.Goals as goal

pub perform-requires-clause-bytes : goal.perform-requires-clause-bytes
perform-requires-clause-bytes c =
    let line = c.due_line-line.result.now in
    let due = lines_at c.args.schedule.now.time c.args.schedule.now.lines in
    let within =
    within-due due c.loop-number.number (length c.args.pipes.now) line c.requires.within c.due_line-line.ensures in
    room-bytes due c.loop-number.number line c.args.pipes.now c.loop-number.pipes c.index-pipes-line.result
    c.due_line-line.ensures within c.requires.room c.loop-number.invariant.1

pub perform-requires-clause-room : goal.perform-requires-clause-room
perform-requires-clause-room c =
    let line = c.due_line-line.result.now in
    let due = lines_at c.args.schedule.now.time c.args.schedule.now.lines in
    let within =
    within-due due c.loop-number.number (length c.args.pipes.now) line c.requires.within c.due_line-line.ensures in
    room-room due c.loop-number.number line c.args.pipes.now c.loop-number.pipes c.index-pipes-line.result
    c.due_line-line.ensures within c.requires.room c.loop-number.invariant.1

pub loop-number-preserved : goal.loop-number-preserved
loop-number-preserved c =
    let line = c.due_line-line.result.now in
    let due = lines_at c.args.schedule.now.time c.args.schedule.now.lines in
    let pipes = c.loop-number.pipes in
    let within =
    within-due due c.loop-number.number (length c.args.pipes.now) line c.requires.within c.due_line-line.ensures in
    let there : line.stream < length pipes = omega (arith, c.loop-number.auto.pipes) in
    let changed =
    changed-set (line_performed line.what) pipes line.stream c.index-pipes-line.result c.perform.new.self there
    c.perform.ensures.stream in
    let more = perform-more due c.loop-number.number line (map pipe_stream c.args.pipes.now) c.due_line-line.ensures in (
      changed ∙ ap (changed_at line.stream (line_performed line.what)) c.loop-number.invariant.0 ∙ sym more,
      uses-more due c.loop-number.number line c.args.pipes.now pipes c.index-pipes-line.result c.perform.new.self
          c.due_line-line.ensures there c.perform.ensures.bytes_left c.perform.ensures.room_left
          c.loop-number.invariant.1,
      marked-set c.args.pipes.now pipes line.stream c.index-pipes-line.result c.perform.new.self there
          c.perform.ensures.marked c.loop-number.invariant.2,
    )
