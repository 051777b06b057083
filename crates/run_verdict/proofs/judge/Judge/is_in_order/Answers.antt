use Rattle.std.proofs.Common.{subst, sym}
use Rattle.std.specs.Prelude.{Result}
use Rattle.run_rules.specs.declared.rule.Rule.{Rule}
use Rattle.run_verdict.specs.Judges.{JudgesOrder}
use Rattle.run_verdict.proofs.LevelLemmas.{loose_order, plain_order, strict_order}
use Rattle.run_verdict.proofs.judge.Judge.is_in_order.Goals as goal

pub returns-in-Loose : goal.returns-in-Loose
returns-in-Loose c = λ level past judged may.
    loose_order level past c.args.self.now judged c.args.line.now.thread c.args.line.now.does c.in-Loose.is

pub returns-in-Plain : goal.returns-in-Plain
returns-in-Plain c = λ level past judged may.
    subst (λ (a : Result (Unit {0}) Rule). JudgesOrder level past c.args.line.now.thread c.args.line.now.does a)
    (sym c.judge_first.ensures)
    (plain_order level past c.args.self.now judged c.args.line.now.thread c.args.line.now.does c.in-Plain.is
    c.is_first.result (c.is_first.ensures level past c.args.line.now.thread judged may))

pub returns-in-Strict : goal.returns-in-Strict
returns-in-Strict c = λ level past judged may.
    strict_order level past c.args.self.now judged c.args.line.now.thread c.args.line.now.does c.in-Strict.is
    c.may_come.result (λ strict. c.may_come.ensures past judged.after (judged.strict strict) may)
