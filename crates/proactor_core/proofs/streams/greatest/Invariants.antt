use Rattle.std.proofs.Common.{◌<◌, ◌≤◌, ℕ, get_or}
use Rattle.proactor_core.proofs.streams.greatest.Given as goal

abbrev pub invariant-loop-size : goal.invariant-loop-size
invariant-loop-size l = (stream : ℕ) → stream < l.size-index → get_or l.sizes stream 0 ≤ l.most
