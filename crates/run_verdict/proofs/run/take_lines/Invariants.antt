use Rattle.std.proofs.Common.{◌≡◌, List, ℕ}
use Rattle.run_rules.specs.declared.level.Level.{Level}
use Rattle.run_verdict.specs.Endings.{IsReading}
use Rattle.run_verdict.proofs.run.take_lines.Given as goal

abbrev pub invariant-loop-at : goal.invariant-loop-at
invariant-loop-at g l = record {
  reading : (level : Level) (text : List ℕ)
      → IsReading level text l.fn.reader.held (g.S.Source.left l.fn.source) l.fn.judge 2
      → IsReading level text l.reader.held (g.S.Source.left l.source) l.judge l.at;
  counts : g.S.Source.faults l.source ≡ g.S.Source.faults l.fn.source;
}
