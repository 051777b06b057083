use Rattle.std.proofs.Common.{List, ℕ}
use Rattle.run_lines.specs.declared.line.Line.{Line}
use Rattle.run_rules.specs.declared.level.Level.{Level}
use Rattle.run_verdict.specs.Judges.{HasJudged}
use Rattle.run_names.specs.Names.{name_at}
use Rattle.run_verdict.specs.Owing.{IsTelling}
use Rattle.run_verdict.proofs.owing.tell_lines.Given as goal

abbrev pub invariant-loop-at : goal.invariant-loop-at
invariant-loop-at g l = (level : Level) (text : List ℕ) (past : List Line) → HasJudged level past l.judge
    → IsTelling (name_at l.names) level text past l.fn.reader.held (g.S.Source.left l.fn.source) l.fn.again 2
    (g.K.Sink.written l.fn.out) (g.K.Sink.written l.fn.out)
    → IsTelling (name_at l.names) level text past l.reader.held (g.S.Source.left l.source) l.again l.at
    (g.K.Sink.written l.fn.out) (g.K.Sink.written l.out)
