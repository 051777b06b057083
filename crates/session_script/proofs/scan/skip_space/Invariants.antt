use Rattle.std.proofs.Common.{◌≡◌, ℕ, ◌+◌, ◌-◌, ◌≤◌, length, drop, []}
use Rattle.session_script.specs.Tokens.{tokens_from}
use Rattle.session_script.proofs.scan.skip_space.Given as goal

abbrev pub invariant-loop-skipped : goal.invariant-loop-skipped
invariant-loop-skipped l = record {
  in_range : l.skipped ≤ length l.bytes;
  countable : l.line ≤ l.fn.line + l.skipped;
  same : (count : ℕ) → tokens_from l.line count [] (drop l.skipped l.bytes) ≡ tokens_from l.fn.line count [] l.bytes;
}

abbrev pub decreases-loop-skipped : goal.decreases-loop-skipped
decreases-loop-skipped l = length l.bytes - l.skipped
