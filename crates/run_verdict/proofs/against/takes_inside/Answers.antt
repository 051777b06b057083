use Rattle.std.proofs.Common.{subst, sym, ◌∙◌}
use Rattle.std.specs.Prelude.{Bool, IsTrue, ◌↔◌}
use Rattle.run_rules.specs.Against.{TakesInside}
use Rattle.run_rules.specs.Stacks.{frame}
use Rattle.run_verdict.proofs.AgainstLemmas.{here_is, inside, not_inside}
use Rattle.run_verdict.proofs.against.takes_inside.Goals as goal

pub returns-in-Some : goal.returns-in-Some
returns-in-Some c = λ level past before judged again.
    subst (λ (b : Bool). IsTrue b ↔ TakesInside past c.args.op before c.args.found.now) (sym c.both.ensures)
    (inside past c.args.op before c.args.found.now c.in-Some.resource c.is_execution-inside.result c.is_taken_by.result
    (sym c.taken_by.ensures ∙ c.in-Some.is)
    (here_is c.is_execution-inside.result c.frame.result (frame before c.args.found.now.thread) c.args.op
    c.is_execution-inside.ensures
    (c.frame.ensures before (c.checker.ensures level before again)))
    (c.is_taken_by.ensures past (c.checker-in-Some.ensures level past judged)))

pub returns-in-None : goal.returns-in-None
returns-in-None c = λ level past before judged again.
    not_inside past c.args.op before c.args.found.now (sym c.taken_by.ensures ∙ c.in-None.is)
