use Rattle.std.proofs.Common.{refl, sym, ◌∙◌}
use Rattle.run_check.proofs.RuleLemmas.{waits_not}
use Rattle.run_check.proofs.JudgeLemmas.{strandless_first}
use Rattle.run_check.proofs.checker.Checker.is_first.Goals as goal

pub returns-in-None : goal.returns-in-None
returns-in-None c = λ past after waits.
    absurd (waits_not past c.args.op (sym (after.waiting c.args.op) ∙ sym c.get.ensures ∙ c.in-None.is) waits)

pub returns-in-None-strand : goal.returns-in-None-strand
returns-in-None-strand c = λ past after waits. (
  λ yes. strandless_first past c.args.op c.in-Some.waiter (sym (after.waiting c.args.op) ∙ sym c.get.ensures ∙ c.in-Some.is)
      c.in-None-strand.is,
  λ first. refl,
)
