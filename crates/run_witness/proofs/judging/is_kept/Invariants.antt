use Rattle.std.proofs.Common.{ℕ, ◌<◌}
use Rattle.run_witness.specs.Judging.{Keeps}
use Rattle.run_witness.proofs.judging.is_kept.Given as goal

abbrev pub invariant-loop-at : goal.invariant-loop-at
invariant-loop-at l = (at : ℕ) → at < l.at → Keeps l.facts l.placing l.place l.claim at
