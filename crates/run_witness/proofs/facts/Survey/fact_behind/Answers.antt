use Rattle.std.proofs.Common.{◌∷◌}
use Rattle.run_witness.proofs.FactsLemmas.{fact_made}
use Rattle.run_witness.proofs.facts.Survey.fact_behind.Goals as goal

pub returns : goal.returns
returns c = λ apart past after is.
    fact_made c.args.thing
    (record { line = c.args.line.now; past = past }) c.args.before c.leaves.result c.is_taken_by.result is
    (c.leaves.ensures past after) (c.is_taken_by.ensures (c.args.line.now ∷ past) after)
