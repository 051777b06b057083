use Rattle.run_check.specs.After.{loose}
use Rattle.run_rules.proofs.VerdictLemmas.{broken_not}
use Rattle.run_witness.proofs.JudgingLemmas.{first_plain, may_come, may_loose, refuted}
use Rattle.run_witness.proofs.judging.may_come.Goals as goal

pub returns-in-Ok : goal.returns-in-Ok
returns-in-Ok c = λ past after.
    let line = c.args.line.now in
    let may = c.in-Ok.ensures past after in
    let first = c.is_first.ensures past line.thread after may in (
      λ good. may_come past line may (first.0 good),
      λ came. first.1 (first_plain past line.thread line.does came.rules),
    )

pub returns-in-Err : goal.returns-in-Err
returns-in-Err c = λ past after.
    let line = c.args.line.now in
    refuted (λ came. absurd (broken_not loose past line.thread line.does c.in-Err.field-0 (c.in-Err.ensures past after)
    (may_loose past line.thread line.does came.rules)))
