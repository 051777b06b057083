use Rattle.std.proofs.Common.{◌≡◌, ◌≤◌, take}
use Rattle.trace_check.specs.Split.{byte_count}
use Rattle.trace_check.proofs.reading.line_count.Given as goal

abbrev pub invariant-loop-byte : goal.invariant-loop-byte
invariant-loop-byte l = record {
  counted : l.count ≡ byte_count 10 (take l.byte-index l.bytes);
  few : l.count ≤ l.byte-index;
}
