use Rattle.std.proofs.Common.{◌≡◌, ℕ, ◌-◌, ◌≤◌, length, take, drop, []}
use Rattle.session_script.specs.Tokens.{tokens_from}
use Rattle.session_script.proofs.scan.run_len.Given as goal

abbrev pub invariant-loop-count : goal.invariant-loop-count
invariant-loop-count l = record {
  in_range : l.count ≤ length l.bytes;
  same : (line count : ℕ) →
      tokens_from line count (take l.count l.bytes) (drop l.count l.bytes) ≡ tokens_from line count [] l.bytes;
}

abbrev pub decreases-loop-count : goal.decreases-loop-count
decreases-loop-count l = length l.bytes - l.count
