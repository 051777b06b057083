use Rattle.std.proofs.Common.{◌≡◌, take, map, All}
use Rattle.stream_rules.specs.World.{lines_at, perform_lines}
use Rattle.stream_rules.specs.Pipes.{pipe_stream, UsesRoom, IsMarked}
use Rattle.stream_rules.proofs.pipes.perform_due.Given as goal

abbrev pub invariant-loop-number : goal.invariant-loop-number
invariant-loop-number l =
    (map pipe_stream l.pipes
    ≡ perform_lines (take l.number (lines_at l.schedule.time l.schedule.lines)) (map pipe_stream l.initial.pipes))
    × UsesRoom (take l.number (lines_at l.schedule.time l.schedule.lines)) l.initial.pipes l.pipes
    × (All IsMarked l.initial.pipes → All IsMarked l.pipes)
