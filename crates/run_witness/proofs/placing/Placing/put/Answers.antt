use Rattle.std.proofs.Common.{ap, sym, ◌∙◌}
use Rattle.run_orders.specs.Trees.{spot_at}
use Rattle.run_orders.proofs.TreeLemmas.{some_same}
use Rattle.run_witness.specs.Facts.{fact_of}
use Rattle.run_witness.specs.declared.facts.Fact.{Fact}
use Rattle.run_witness.proofs.StandingLemmas.{may_put, no_fact}
use Rattle.run_witness.proofs.PlacingLemmas.{put_next, put_well, spot_of_fact}
use Rattle.run_witness.proofs.placing.Placing.put.Goals as goal

pub returns-in_ok-note-in-Some-clause-good : goal.returns-in_ok-note-in-Some-clause-good
returns-in_ok-note-in-Some-clause-good c = λ apart thing run before are kept is good.
    let fact : Fact = c.in-Some.fact in
    let step = c.args.step.now in
    let found = spot_of_fact thing run c.args.facts.now step.place fact are (sym c.at.ensures ∙ c.in-Some.is) in
    let may = c.may_put.ensures.0 c.if-may_put.true in (
      put_next run before c.args.self.now c.note.new.self step fact found.0 kept found.1 (ap (λ (f : Fact). f.line) found.2)
          (ap (λ (f : Fact). f.tree) found.2) may.numbered may.together c.in_ok-note-in-Some.ensures,
      put_well thing run c.args.facts.now before c.args.self.now step c.args.who fact found.0 are kept is found.1
          found.2 may,
    )

pub returns-else-may_put-clause-bad : goal.returns-else-may_put-clause-bad
returns-else-may_put-clause-bad c = λ apart thing run before are kept is each.
    let fact : Fact = c.in-Some.fact in
    let step = c.args.step.now in
    let found = spot_of_fact thing run c.args.facts.now step.place fact are (sym c.at.ensures ∙ c.in-Some.is) in
    sym c.if-may_put.false
    ∙ c.may_put.ensures.1
    (may_put thing run c.args.facts.now before c.args.self.now step c.args.who fact are kept is each.0 each.1
    (found.2 ∙ ap (fact_of apart thing) (some_same found.0 each.1.spot (sym found.1 ∙ each.1.there))))

pub returns-in-None-clause-bad : goal.returns-in-None-clause-bad
returns-in-None-clause-bad c = λ apart thing run before are kept is each.
    absurd (no_fact (spot_at run c.args.step.now.place) each.1.spot (fact_of apart thing)
    (sym (are.lines c.args.step.now.place) ∙ sym c.at.ensures ∙ c.in-None.is) each.1.there)
