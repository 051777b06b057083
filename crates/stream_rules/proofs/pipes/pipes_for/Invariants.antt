use Rattle.std.proofs.Common.{◌≡◌, ℕ, ◌<◌, length, map, replicate}
use Rattle.std.specs.List.{slice_index_or}
use Rattle.stream_rules.specs.Stream.{new_stream}
use Rattle.stream_rules.specs.declared.pipe.Pipe.{Pipe}
use Rattle.stream_rules.specs.Pipes.{fed_to, room_to, pipe_stream}
use Rattle.stream_rules.proofs.pipes.pipes_for.Given as goal

abbrev pub invariant-loop-stream : goal.invariant-loop-stream
invariant-loop-stream l =
    (map pipe_stream l.pipes.items ≡ replicate l.stream new_stream) × (length l.pipes.items ≡ l.stream)
    × ((stream : ℕ) (pipe : Pipe) → stream < length l.pipes.items →
    (slice_index_or l.pipes.items stream pipe).inbound.left ≡ fed_to stream l.lines)
    × ((stream : ℕ) (pipe : Pipe) → stream < length l.pipes.items →
    (slice_index_or l.pipes.items stream pipe).outbound.left ≡ room_to stream l.lines)
