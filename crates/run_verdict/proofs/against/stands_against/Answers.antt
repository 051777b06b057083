use Rattle.std.proofs.Common.{subst, sym, ◌∙◌}
use Rattle.std.specs.Prelude.{IsTrue, ◌↔◌}
use Rattle.run_rules.specs.declared.rule.Rule.{Rule}
use Rattle.run_rules.specs.Against.{StandsAgainst}
use Rattle.run_rules.specs.Breaks.{BreaksRule}
use Rattle.run_verdict.proofs.AgainstLemmas.{by_none, by_op, by_some, streams_on, strict_on, waits_of}
use Rattle.run_verdict.proofs.against.stands_against.Goals as goal

pub returns-in-Single : goal.returns-in-Single
returns-in-Single c = λ level past before confronts.
    let breaks = subst (λ (r : Rule). BreaksRule level past c.args.line.now r) c.in-Single.is confronts.breaks in
    subst (λ (r : Rule). IsTrue c.calls_pending.result ↔ StandsAgainst past c.args.line.now r before
    c.args.found.now) (sym c.in-Single.is)
    (c.calls_pending.ensures level past confronts.judged
    (streams_on level past c.args.line.now breaks))

pub returns-in-Untouched : goal.returns-in-Untouched
returns-in-Untouched c = λ level past before confronts.
    subst (λ (r : Rule). IsTrue c.takes_elsewhere.result ↔ StandsAgainst past c.args.line.now r before
    c.args.found.now) (sym c.in-Untouched.is)
    (c.takes_elsewhere.ensures level past confronts.judged)

pub returns-in-Unlocked : goal.returns-in-Unlocked
returns-in-Unlocked c = λ level past before confronts.
    subst (λ (r : Rule). IsTrue c.takes_elsewhere-in-Unlocked.result ↔ StandsAgainst past c.args.line.now r
    before c.args.found.now) (sym c.in-Unlocked.is)
    (c.takes_elsewhere-in-Unlocked.ensures level past confronts.judged)

pub returns-in-Finishing : goal.returns-in-Finishing
returns-in-Finishing c = λ level past before confronts.
    let breaks = subst (λ (r : Rule). BreaksRule level past c.args.line.now r) c.in-Finishing.is confronts.breaks in
    subst (λ (r : Rule). IsTrue c.stands_at_finish.result ↔ StandsAgainst past c.args.line.now r before
    c.args.found.now) (sym c.in-Finishing.is)
    (c.stands_at_finish.ensures level past confronts.judged (strict_on level past c.args.line.now breaks))

pub returns-in-Some : goal.returns-in-Some
returns-in-Some c = λ level past before confronts.
    let names = sym c.op_of.ensures ∙ c.in-Some.is in
    by_op past c.args.line.now c.args.rule before c.args.found.now c.stands_against_op.result
    c.in_default.not-Single c.in_default.not-Untouched c.in_default.not-Unlocked c.in_default.not-Finishing
    (by_some past c.args.line.now c.args.rule before c.args.found.now c.stands_against_op.result c.in-Some.op names
    (c.stands_against_op.ensures level past before confronts.judged
    (waits_of level past c.args.line.now c.args.rule c.in-Some.op names confronts.breaks)
    confronts.judged_again confronts.may))

pub returns-in-None : goal.returns-in-None
returns-in-None c = λ level past before confronts.
    by_op past c.args.line.now c.args.rule before c.args.found.now _ c.in_default.not-Single
    c.in_default.not-Untouched c.in_default.not-Unlocked c.in_default.not-Finishing
    (by_none past c.args.line.now c.args.rule before c.args.found.now (sym c.op_of.ensures ∙ c.in-None.is))
