use Rattle.std.proofs.Common.{◌≢◌, ℕ, ◌-◌, ◌<◌, ◌≤◌, length, get_or}
use Rattle.trace_check.proofs.reading.split.split_once.Given as goal

abbrev pub invariant-loop-before : goal.invariant-loop-before
invariant-loop-before l = record {
  within : l.before ≤ length l.bytes;
  other : (k : ℕ) → k < l.before → get_or l.bytes k 0 ≢ l.separator;
}

abbrev pub decreases-loop-before : goal.decreases-loop-before
decreases-loop-before l = length l.bytes - l.before
