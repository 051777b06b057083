use Rattle.std.proofs.Common.{ap, subst, sym, ◌∙◌}
use Rattle.std.specs.Prelude.{Bool, IsTrue, ◌↔◌, ◌&&◌}
use Rattle.run_rules.specs.Against.{TakesIt}
use Rattle.run_verdict.proofs.AgainstLemmas.{elsewhere, not_elsewhere}
use Rattle.run_verdict.proofs.against.has_elsewhere.Goals as goal

pub returns-in-Some : goal.returns-in-Some
returns-in-Some c = λ level past judged.
    subst (λ (b : Bool). IsTrue b ↔ TakesIt past c.args.thread c.args.resource c.args.found.now)
    (sym (c.both-in-Some.ensures ∙ ap (λ (b : Bool). c.is_same.result && b) (c.both.ensures
    ∙ ap (λ (b : Bool). b && c.has_taken-kept.result) c.differs-elsewhere.ensures)))
    (elsewhere past c.args.thread c.args.resource c.in-Some.other c.args.found.now c.is_same.result c.has_taken-kept.result
    (sym c.taken_by.ensures ∙ c.in-Some.is) c.is_same.ensures
    (c.has_taken-kept.ensures past (c.checker.ensures level past judged)))

pub returns-in-None : goal.returns-in-None
returns-in-None c = λ level past judged.
    not_elsewhere past c.args.thread c.args.resource c.args.found.now (sym c.taken_by.ensures ∙ c.in-None.is)
