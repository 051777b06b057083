use Rattle.std.proofs.Common.{◌≡◌, ◌++◌, ℕ, ◌<◌, take, drop, map, get_or}
use Rattle.stream_rules.specs.Stream.{marked_last}
use Rattle.stream_rules.specs.declared.pipe.Pipe.{Pipe}
use Rattle.stream_rules.specs.Pipes.{pipe_stream, IsMarked, KeepsRoom}
use Rattle.stream_rules.proofs.pipes.mark_last.Given as goal

abbrev pub invariant-loop-pipe : goal.invariant-loop-pipe
invariant-loop-pipe l =
    (map pipe_stream l.pipes
    ≡ map marked_last (take l.pipe-index (map pipe_stream l.initial.pipes))
    ++ drop l.pipe-index (map pipe_stream l.initial.pipes))
    × KeepsRoom l.initial.pipes l.pipes
    × ((k : ℕ) (pipe : Pipe) → k < l.pipe-index → IsMarked (get_or l.pipes k pipe))
