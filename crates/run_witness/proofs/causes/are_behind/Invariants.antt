use Rattle.std.proofs.Common.{ℕ, List}
use Rattle.run_lines.specs.declared.line.Line.{Line}
use Rattle.run_witness.specs.Facts.{AreFacts}
use Rattle.run_witness.proofs.CausesLemmas.{AreBehindBelow}
use Rattle.run_witness.proofs.causes.are_behind.Given as goal

abbrev pub invariant-loop-place : goal.invariant-loop-place
invariant-loop-place l = (apart : List ℕ) (thing : ℕ) (run : List Line) → AreFacts apart thing run l.facts →
    AreBehindBelow run apart l.placing l.place l.causes
