use Rattle.std.proofs.Common.{◌≡◌, subst, sym}
use Rattle.run_lines.specs.declared.line.Doing.{Doing}
use Rattle.run_verdict.specs.Owing.{is_owed}
use Rattle.run_verdict.proofs.owing.is_owed.Goals as goal

pub returns-in-Call : goal.returns-in-Call
returns-in-Call c = λ level past earlier judged again.
    subst (λ (d : Doing). c.waits.result ≡ is_owed past earlier c.args.line.now.thread d) (sym c.in-Call.is)
    (c.waits.ensures level past judged)

pub returns-in-Begin : goal.returns-in-Begin
returns-in-Begin c = λ level past earlier judged again.
    subst (λ (d : Doing). c.is_executing.result ≡ is_owed past earlier c.args.line.now.thread d) (sym c.in-Begin.is)
    (c.is_executing.ensures past (c.checker.ensures level past judged))

pub returns-in-Claim : goal.returns-in-Claim
returns-in-Claim c = λ level past earlier judged again.
    subst (λ (d : Doing). c.has_kept.result ≡ is_owed past earlier c.args.line.now.thread d) (sym c.in-Claim.is)
    (c.has_kept.ensures level past earlier judged again)

pub returns-in-Lock : goal.returns-in-Lock
returns-in-Lock c = λ level past earlier judged again.
    subst (λ (d : Doing). c.has_kept-in-Lock.result ≡ is_owed past earlier c.args.line.now.thread d) (sym c.in-Lock.is)
    (c.has_kept-in-Lock.ensures level past earlier judged again)
