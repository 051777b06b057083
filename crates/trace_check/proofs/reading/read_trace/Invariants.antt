use Rattle.std.proofs.Common.{◌≡◌, ◌≤◌, ◌+◌, ◌++◌, length}
use Rattle.history_book.specs.Trace.{AreEvents, trace_of}
use Rattle.trace_check.specs.Split.{byte_count}
use Rattle.trace_check.proofs.reading.read_trace.Given as goal

abbrev pub invariant-loop-rest : goal.invariant-loop-rest
invariant-loop-rest l = record {
  lines_before : l.bytes ≡ trace_of l.history.events ++ l.rest;
  numbers : AreEvents l.history.events;
  number_of_line : l.line ≡ length l.history.events + 1;
  room : l.history.spare ≡ byte_count 10 l.rest;
  few : l.line + byte_count 10 l.rest ≤ length l.bytes + 1;
}

abbrev pub decreases-loop-rest : goal.decreases-loop-rest
decreases-loop-rest l = byte_count 10 l.rest
