use Rattle.std.proofs.Common.{sym, subst, ◌∙◌}
use Rattle.std.specs.Prelude.{Bool, IsTrue, ◌↔◌}
use Rattle.run_check.specs.Beginning.{SomeGoesBefore}
use Rattle.run_check.proofs.RuleLemmas.{if_spot}
use Rattle.run_check.proofs.JudgeLemmas.{upto_from}
use Rattle.run_check.proofs.checker.Checker.comes_later.Goals as goal

pub returns : goal.returns
returns c = λ past after.
    subst (λ (b : Bool). IsTrue b ↔ SomeGoesBefore past c.args.strand c.args.entry) (sym c.is_upto.ensures)
    (upto_from past c.args.strand c.first.result c.args.entry
    (λ op place is. c.first.ensures.least after.ordered op place (after.queued op ∙ is))
    (if_spot past c.args.self.now after c.args.strand c.first.result (c.first.ensures.stands after.ordered)))
