use Rattle.std.proofs.Common.{reverse, sym, ◌∙◌}
use Rattle.run_witness.proofs.SearchLemmas.{found_apart}
use Rattle.run_witness.proofs.witness.find_apart.Goals as goal

pub returns-in-Some-clause-found : goal.returns-in-Some-clause-found
returns-in-Some-clause-found c =
    found_apart (reverse c.args.run.now) c.witness_of.result.apart.items c.deref.result.now c.deref-2.result.now
    c.args.thing
    c.in_ok-search.search.facts c.in_ok-found.field-0 c.in-Some.found c.witness_of.result.steps.items
    c.witness_of.result.last
    c.witness_of.result.claim c.in-Some.is c.in_ok-found.ensures c.in_ok-search.ensures.known
    (c.deref.ensures.value ∙ (λ i. (sym c.witness_of.ensures.apart i).items))
    (c.deref-2.ensures.value ∙ (λ i. (sym c.witness_of.ensures.apart i).items)) (λ i. (c.witness_of.ensures.steps i).items)
    c.witness_of.ensures.last c.witness_of.ensures.claim
