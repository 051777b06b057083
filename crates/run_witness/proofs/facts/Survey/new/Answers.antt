use Rattle.std.proofs.Common.{refl, rules}
use Rattle.run_witness.proofs.FactsLemmas.{nothing_seen}
use Rattle.run_witness.proofs.facts.Survey.new.Goals as goal

pub returns : goal.returns
returns c = λ apart thing.
    nothing_seen apart thing
    (record {
      checker = c.new.result;
      roots = c.new-2.result;
      calls = c.new-3.result;
      facts = record {
        lines = 0;
        by_place = c.new-4.result;
        executions = c.new-5.result;
      };
    })
    c.new.ensures (λ thread. search rules)
    (λ place. search rules) refl c.new-5.ensures.workers c.new-5.ensures.lent c.new-5.ensures.idle
