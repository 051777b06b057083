use Rattle.std.proofs.Common.{ℕ, List, take}
use Rattle.std.specs.List.{All}
use Rattle.run_lines.specs.declared.line.Line.{Line}
use Rattle.run_check.specs.After.{IsAfter}
use Rattle.run_witness.specs.Judging.{HasEntry}
use Rattle.run_witness.proofs.judging.some_has_entry.Given as goal

abbrev pub invariant-loop-op : goal.invariant-loop-op
invariant-loop-op l = (past : List Line) → IsAfter past l.checker
    → All (λ op. ¬ (HasEntry past l.strand op)) (take l.op-index l.ops)
