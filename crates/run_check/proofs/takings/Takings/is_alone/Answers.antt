use Rattle.std.proofs.Common.{◌≡◌, sym, ◌∙◌}
use Rattle.std.proofs.lemmas.Bool.{eqb-true, eq-eqb}
use Rattle.run_rules.specs.Takings.{same_resource}
use Rattle.run_rules.specs.contracts.taking.ResourcePartialEq.TheImpl as resources
use Rattle.run_rules.specs.declared.taking.Taking.{Taking}
use Rattle.run_check.specs.contracts.takings.ClaimantPartialEq.TheImpl as claimants
use Rattle.run_check.specs.Takings.{same_claimant, times, is_of}
use Rattle.run_check.proofs.TestLemmas.{resource_test, claimant_test, count_by}
use Rattle.run_check.proofs.CountLemmas.{alone_from_times, times_from_alone}
use Rattle.run_check.proofs.takings.Takings.is_alone.Goals as goal

pub returns : goal.returns
returns c = λ all counted.
    let everyone : c.get.result ≡ times (λ (one : Taking). same_resource one.resource c.args.resource) all =
    c.get.ensures ∙ sym (count_by (resources.eq-value).it same_resource resource_test c.args.self.now.by_resource
    c.args.resource) ∙ counted.by_resource c.args.resource in
    let own : c.get-2.result ≡ times (is_of c.args.thread c.args.resource) all =
    c.get-2.ensures ∙ sym (count_by (claimants.eq-value).it same_claimant claimant_test c.args.self.now.by_thread
    (record { thread = c.args.thread; resource = c.args.resource })) ∙ counted.by_thread c.args.thread c.args.resource in (
      λ yes. alone_from_times c.args.thread c.args.resource all (sym everyone ∙ eqb-true c.get.result c.get-2.result yes ∙ own),
      λ alone. eq-eqb c.get.result c.get-2.result (everyone ∙ times_from_alone c.args.thread c.args.resource all alone ∙ sym own),
    )
