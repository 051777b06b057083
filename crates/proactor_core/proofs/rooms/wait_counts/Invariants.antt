use Rattle.std.proofs.Common.{◌≡◌, ◌<◌, ◌≤◌, ℕ, length, get_or}
use Rattle.std.specs.List.{All}
use Rattle.proactor_core.specs.Rooms.{acts_below, waits_for}
use Rattle.proactor_core.proofs.rooms.wait_counts.Given as goal

abbrev pub invariant-loop-a : goal.invariant-loop-a
invariant-loop-a l = record {
  timers : length l.counts.items ≡ l.script.timers;
  counts : (timer : ℕ) → timer < length l.counts.items →
      get_or l.counts.items timer 0 ≡ acts_below (waits_for timer) l.script l.a;
  few : All (λ count. count ≤ l.a) l.counts.items;
}
