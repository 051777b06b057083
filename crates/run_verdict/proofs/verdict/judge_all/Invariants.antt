use Rattle.std.proofs.Common.{[], reverse, take}
use Rattle.run_rules.specs.declared.level.Level.{Level}
use Rattle.run_verdict.specs.Judges.{HasJudged}
use Rattle.run_verdict.proofs.verdict.judge_all.Given as goal

abbrev pub invariant-loop-line : goal.invariant-loop-line
invariant-loop-line l = (level : Level) → HasJudged level [] l.fn.judge
    → HasJudged level (reverse (take l.line-index l.lines)) l.judge
