use Rattle.std.proofs.Common.{refl, ◌∙◌}
use Rattle.run_rules.specs.Stacks.{same_frame}
use Rattle.run_rules.specs.Takings.{same_resource, same_taking}
use Rattle.run_rules.specs.contracts.frame.FramePartialEq.TheImpl as frames
use Rattle.run_rules.specs.contracts.taking.ResourcePartialEq.TheImpl as resources
use Rattle.run_rules.specs.contracts.taking.TakingPartialEq.TheImpl as takings
use Rattle.run_check.specs.contracts.takings.ClaimantPartialEq.TheImpl as claimants
use Rattle.run_check.specs.Takings.{same_claimant}
use Rattle.run_check.proofs.TestLemmas.{frame_test, resource_test, taking_test, claimant_test, count_by}
use Rattle.run_check.proofs.takings.Takings.new.Goals as goal

pub returns : goal.returns
returns c = record {
  exact = λ taking. count_by (takings.eq-value).it same_taking taking_test c.new.result taking ∙ c.new.ensures taking;
  by_frame = λ who. count_by (frames.eq-value).it same_frame frame_test c.new-2.result who ∙ c.new-2.ensures who;
  by_resource = λ resource. count_by (resources.eq-value).it same_resource resource_test c.new-3.result resource
      ∙ c.new-3.ensures resource;
  by_thread = λ thread resource. count_by (claimants.eq-value).it same_claimant claimant_test c.new-4.result (record {
    thread =
        thread;
    resource = resource;
  }) ∙ c.new-4.ensures (record { thread = thread; resource = resource });
  number = refl;
}
