use Rattle.std.proofs.Common.{inl, sym, ◌∙◌}
use Rattle.run_verdict.proofs.LevelLemmas.{breaks_level, order_judges, single_breaks}
use Rattle.run_verdict.proofs.judge.Judge.may_come.Goals as goal

pub returns-in-Err : goal.returns-in-Err
returns-in-Err c = λ level past judged.
    inl (breaks_level level past c.args.line.now.thread c.args.line.now.does c.in-Err.rule (c.in-Err.ensures past judged.after))

pub returns-then-is_single : goal.returns-then-is_single
returns-then-is_single c = λ level past judged.
    let may = c.in-Ok.ensures past judged.after in
    order_judges level past c.args.self.now judged c.args.line.now may (sym c.is_single.ensures ∙ c.if-is_single.true)
    c.is_in_order.result (c.is_in_order.ensures level past judged may)

pub returns-else-is_single : goal.returns-else-is_single
returns-else-is_single c = λ level past judged.
    inl (single_breaks level past c.args.self.now judged c.args.line.now.thread c.args.line.now.does
    (c.in-Ok.ensures past judged.after)
    (sym c.is_single.ensures ∙ c.if-is_single.false))
