use Rattle.std.proofs.Common.{◌≡◌, ◌<◌, ℕ, length, get_or}
use Rattle.proactor_core.specs.Streams.{new_stream_view, stream_in}
use Rattle.proactor_core.proofs.streams.open_streams.Given as goal

abbrev pub invariant-loop-stream : goal.invariant-loop-stream
invariant-loop-stream l = record {
  count : length l.made.items ≡ l.stream;
  each : (n : ℕ) → n < l.stream →
      stream_in l.made.items n ≡ new_stream_view (get_or l.sizes n 0) (get_or l.reads n 0) (get_or l.writes n 0);
}
