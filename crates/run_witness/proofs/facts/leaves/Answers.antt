use Rattle.std.proofs.Common.{◌∷◌, ap, sym, ◌∙◌}
use Rattle.std.specs.Prelude.{◌&&◌, ℕ, Option, is_some}
use Rattle.std.specs.Option.{is_none}
use Rattle.run_orders.specs.Causes.{ends}
use Rattle.run_witness.proofs.facts.leaves.Goals as goal

pub returns-in-None : goal.returns-in-None
returns-in-None c = λ past after.
    c.is_end.ensures
    ∙ sym (ap (λ (o : Option ℕ). is_none o && is_some (ends c.args.line.now.does))
    (sym (c.innermost.ensures (c.args.line.now ∷ past) after) ∙ c.in-None.is))

pub returns-in-Some : goal.returns-in-Some
returns-in-Some c = λ past after.
    sym (ap (λ (o : Option ℕ). is_none o && is_some (ends c.args.line.now.does))
    (sym (c.innermost.ensures (c.args.line.now ∷ past) after) ∙ c.in-Some.is))
