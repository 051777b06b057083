use Rattle.std.proofs.Common.{◌≡◌, List, ℕ, None}
use Rattle.run_lines.specs.declared.line.Line.{Line}
use Rattle.run_rules.specs.declared.level.Level.{Level}
use Rattle.run_rules.specs.Breaks.{BreaksRule}
use Rattle.run_verdict.specs.Judges.{HasJudged}
use Rattle.run_verdict.specs.Search.{IsSearching}
use Rattle.run_verdict.proofs.search.search_lines.Given as goal

abbrev pub invariant-loop-at : goal.invariant-loop-at
invariant-loop-at g l = record {
  searching : (level : Level) (text : List ℕ) (past : List Line) → HasJudged level past l.judge
      → BreaksRule level past l.breach.line l.breach.rule
      → IsSearching level text past l.breach.line l.breach.rule l.fn.reader.held (g.S.Source.left l.fn.source) l.fn.again 2 None
      → IsSearching level text past l.breach.line l.breach.rule l.reader.held (g.S.Source.left l.source) l.again l.at l.found;
  counts : g.S.Source.faults l.source ≡ g.S.Source.faults l.fn.source;
}
