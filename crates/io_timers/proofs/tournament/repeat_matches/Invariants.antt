use Rattle.std.proofs.Common.{◌≡◌, ◌≢◌, ◌<◌, ℕ, length}
use Rattle.io_timers.specs.Tournament.{IsNode}
use Rattle.io_timers.proofs.tournament.repeat_matches.Given as goal

abbrev pub invariant-loop-at : goal.invariant-loop-at
invariant-loop-at l = record {
  long : length l.inner.items ≡ length l.leaves.items;
  within : 0 < l.at → l.at < length l.inner.items;
  others : (n : ℕ) → 0 < n → n < length l.inner.items → n ≢ l.at → IsNode l.inner.items l.leaves.items n;
}

abbrev pub decreases-loop-at : goal.decreases-loop-at
decreases-loop-at l = l.at
