use Rattle.std.proofs.Common.{reverse, take}
use Rattle.std.proofs.lemmas.Bool.{both_ways}
use Rattle.run_verdict.specs.Judges.{HasJudged}
use Rattle.run_verdict.proofs.VerdictLemmas.{first_illegal, judged_all, judged_more}
use Rattle.run_verdict.proofs.verdict.judge_all.Goals as goal

pub loop-line-preserved : goal.loop-line-preserved
loop-line-preserved c = λ level new.
    judged_more level c.args.lines.now c.loop-line.line-index c.line-item.result c.loop-line.judge c.follow.new.self
    c.loop-line-test.true c.line-item.is
    (c.loop-line.invariant level new) (c.in-Ok.ensures level) (c.in_ok-follow.ensures level)

pub returns-in-Err : goal.returns-in-Err
returns-in-Err c = λ level new.
    first_illegal level c.args.lines.now c.loop-line.line-index c.line-item.result c.lines-place.result c.in-Err.rule
    c.loop-line-test.true c.line-item.is
    (c.loop-line.invariant level new).legal (c.in-Err.ensures level (reverse (take c.loop-line.line-index c.args.lines.now))
    (c.loop-line.invariant level new))
    (c.lines-place.ensures level (reverse (take c.loop-line.line-index c.args.lines.now)) (c.loop-line.invariant level new))

pub returns-then-is_whole : goal.returns-then-is_whole
returns-then-is_whole c = λ level new.
    let judged : HasJudged level (reverse c.args.lines.now) c.loop-line.judge =
    judged_all level c.args.lines.now c.loop-line.line-index c.loop-line.judge c.loop-line-test.false
    (c.loop-line.invariant level new) in
    (judged.legal, (c.is_whole.ensures level (reverse c.args.lines.now) judged).0 c.if-is_whole.true)

pub returns-else-is_whole : goal.returns-else-is_whole
returns-else-is_whole c = λ level new.
    let judged : HasJudged level (reverse c.args.lines.now) c.loop-line.judge =
    judged_all level c.args.lines.now c.loop-line.line-index c.loop-line.judge c.loop-line-test.false
    (c.loop-line.invariant level new) in (
      judged.legal,
      λ whole. both_ways c.is_whole.result c.if-is_whole.false
          ((c.is_whole.ensures level (reverse c.args.lines.now) judged).1 whole),
    )
