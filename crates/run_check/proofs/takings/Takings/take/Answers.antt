use Rattle.std.proofs.Common.{◌≡◌, ◌<◌, ◌^◌, ℕ, ap, subst, ◌∙◌, ◌+◌}
use Rattle.std.specs.Prelude.{if◌then◌else◌}
use Rattle.run_rules.specs.Stacks.{same_frame}
use Rattle.run_rules.specs.Takings.{same_resource, same_taking}
use Rattle.run_rules.specs.contracts.frame.FramePartialEq.TheImpl as frames
use Rattle.run_rules.specs.contracts.taking.ResourcePartialEq.TheImpl as resources
use Rattle.run_rules.specs.contracts.taking.TakingPartialEq.TheImpl as takings
use Rattle.run_check.specs.contracts.takings.ClaimantPartialEq.TheImpl as claimants
use Rattle.run_check.specs.Takings.{same_claimant, is_of}
use Rattle.run_check.proofs.TestLemmas.{frame_test, resource_test, taking_test, claimant_test, added_by}
use Rattle.run_check.specs.Counts.{count_of}
use Rattle.run_check.specs.declared.takings.Claimant.{Claimant}
use Rattle.run_check.proofs.CountLemmas.{one_more_of}
use Rattle.run_check.proofs.takings.Takings.take.Goals as goal

pub returns : goal.returns
returns c = λ all counted.
    let pair : Claimant = record { thread = c.args.taking.thread; resource = c.args.taking.resource } in
    record {
      exact = λ taking. added_by (takings.eq-value).it same_taking taking_test c.args.self.now.exact c.add.new.self
          c.args.taking c.in_ok-add.ensures taking
          ∙ ap (λ (n : ℕ). (if same_taking c.args.taking taking then 1 else 0) + n) (counted.exact taking);
      by_frame = λ who. added_by (frames.eq-value).it same_frame frame_test c.args.self.now.by_frame c.add-2.new.self
          c.args.taking.frame c.in_ok-add-2.ensures who
          ∙ ap (λ (n : ℕ). (if same_frame c.args.taking.frame who then 1 else 0) + n) (counted.by_frame who);
      by_resource = λ resource. added_by (resources.eq-value).it same_resource resource_test c.args.self.now.by_resource
          c.add-3.new.self c.args.taking.resource c.in_ok-add-3.ensures resource
          ∙ ap (λ (n : ℕ). (if same_resource c.args.taking.resource resource then 1 else 0) + n) (counted.by_resource resource);
      by_thread = λ thread resource. added_by (claimants.eq-value).it same_claimant claimant_test c.args.self.now.by_thread
          c.add-4.new.self pair
          (let P : Claimant → Type 0 = λ key. (q : Claimant)
          → count_of (claimants.eq-value).it c.add-4.new.self q
          ≡ (if (claimants.eq-value).it key q then 1 else 0) + count_of (claimants.eq-value).it c.args.self.now.by_thread q in
          subst P c.claimant_of.ensures c.in_ok-add-4.ensures) (record { thread = thread; resource = resource })
          ∙ ap (λ (n : ℕ). (if is_of thread resource c.args.taking then 1 else 0) + n) (counted.by_thread thread resource);
      number = one_more_of (c.args.self.now.number + 1 < 2 ^ 64) all c.args.self.now.number c.in_ok-self.field-0
          c.checked_add.result counted.number c.checked_add.ensures (c.in_ok-self.ensures.ok_part);
    }
