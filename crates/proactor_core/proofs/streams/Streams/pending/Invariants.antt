use Rattle.std.proofs.Common.{◌≡◌, length, take, sum_by}
use Rattle.proactor_core.specs.Counts.{within_32_bits}
use Rattle.proactor_core.specs.Streams.{pending_on}
use Rattle.proactor_core.proofs.streams.Streams.pending.Given as goal

abbrev pub invariant-loop-stream : goal.invariant-loop-stream
invariant-loop-stream l = record {
  ends : l.stream-end ≡ length l.initial.self;
  counted : l.pending ≡ within_32_bits (sum_by pending_on (take l.stream l.initial.self));
}
