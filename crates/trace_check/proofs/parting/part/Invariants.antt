use Rattle.std.proofs.Common.{ℕ, ◌<◌}
use Rattle.trace_check.specs.Parting.{LineStandsAt}
use Rattle.trace_check.proofs.parting.part.Given as goal

abbrev pub invariant-loop-at : goal.invariant-loop-at
invariant-loop-at l = (k : ℕ) → k < l.at → LineStandsAt l.input k → ⊥
