use Rattle.std.proofs.Common.{sym, ◌∙◌}
use Rattle.run_check.proofs.RuleLemmas.{waits_not}
use Rattle.run_check.proofs.checker.Checker.longest.Goals as goal

pub returns-in-Some : goal.returns-in-Some
returns-in-Some c = λ past after waits place.
    c.longest_before.ensures past after c.args.op (sym (after.waiting c.args.op) ∙ sym c.get.ensures ∙ c.in-Some.is) place

pub returns-in-None : goal.returns-in-None
returns-in-None c = λ past after waits place.
    absurd (waits_not past c.args.op (sym (after.waiting c.args.op) ∙ sym c.get.ensures ∙ c.in-None.is) waits)
