use Rattle.std.proofs.Common.{subst, sym}
use Rattle.run_lines.specs.declared.line.Doing.{Doing}
use Rattle.run_check.specs.After.{JudgesDoing}
use Rattle.run_check.proofs.checker.Checker.may_come.Goals as goal

pub returns-in-Call : goal.returns-in-Call
returns-in-Call c = λ past after.
    let P : Doing → Type 0 = λ does. JudgesDoing past c.args.line.now.thread does c.may_call.result in
    subst P (sym c.in-Call.is) (c.may_call.ensures past c.in-Call.word c.in-Call.context c.in-Call.strand c.in-Call.thing after)

pub returns-in-Done : goal.returns-in-Done
returns-in-Done c = λ past after.
    let P : Doing → Type 0 = λ does. JudgesDoing past c.args.line.now.thread does c.may_complete.result in
    subst P (sym c.in-Done.is) (c.may_complete.ensures past c.in-Done.code c.in-Done.size after)
