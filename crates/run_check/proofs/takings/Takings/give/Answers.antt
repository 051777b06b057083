use Rattle.std.proofs.Common.{◌≡◌, ℕ, ap, subst, ◌∙◌, ◌-◌}
use Rattle.std.specs.Prelude.{if◌then◌else◌}
use Rattle.run_rules.specs.Stacks.{same_frame}
use Rattle.run_rules.specs.Takings.{same_resource, same_taking}
use Rattle.run_rules.specs.contracts.frame.FramePartialEq.TheImpl as frames
use Rattle.run_rules.specs.contracts.taking.ResourcePartialEq.TheImpl as resources
use Rattle.run_rules.specs.contracts.taking.TakingPartialEq.TheImpl as takings
use Rattle.run_rules.specs.declared.taking.Taking.{Taking}
use Rattle.run_check.specs.contracts.takings.ClaimantPartialEq.TheImpl as claimants
use Rattle.run_check.specs.Takings.{same_claimant, is_of}
use Rattle.run_check.proofs.TestLemmas.{frame_test, resource_test, taking_test, claimant_test, taken_away_by}
use Rattle.run_check.specs.Counts.{count_of}
use Rattle.run_check.specs.declared.takings.Claimant.{Claimant}
use Rattle.run_check.proofs.CountLemmas.{length-without, times-less}
use Rattle.run_check.proofs.takings.Takings.give.Goals as goal

pub returns : goal.returns
returns c = λ all counted is.
    let pair : Claimant = record { thread = c.args.taking.thread; resource = c.args.taking.resource } in
    record {
      exact = λ taking. taken_away_by (takings.eq-value).it same_taking taking_test c.args.self.now.exact c.take_away.new.self
          c.args.taking c.in_ok-take_away.ensures taking
          ∙ ap (λ (n : ℕ). n - (if same_taking c.args.taking taking then 1 else 0)) (counted.exact taking)
          ∙ times-less (λ (one : Taking). same_taking one taking) c.args.taking all is;
      by_frame = λ who. taken_away_by (frames.eq-value).it same_frame frame_test c.args.self.now.by_frame
          c.take_away-2.new.self c.args.taking.frame c.in_ok-take_away-2.ensures who
          ∙ ap (λ (n : ℕ). n - (if same_frame c.args.taking.frame who then 1 else 0)) (counted.by_frame who)
          ∙ times-less (λ (one : Taking). same_frame one.frame who) c.args.taking all is;
      by_resource = λ resource. taken_away_by (resources.eq-value).it same_resource resource_test c.args.self.now.by_resource
          c.take_away-3.new.self c.args.taking.resource c.in_ok-take_away-3.ensures resource
          ∙ ap (λ (n : ℕ). n - (if same_resource c.args.taking.resource resource then 1 else 0)) (counted.by_resource resource)
          ∙ times-less (λ (one : Taking). same_resource one.resource resource) c.args.taking all is;
      by_thread = λ thread resource. taken_away_by (claimants.eq-value).it same_claimant claimant_test
          c.args.self.now.by_thread c.take_away-4.new.self pair
          (let P : Claimant → Type 0 = λ key. (q : Claimant)
          → count_of (claimants.eq-value).it c.take_away-4.new.self q
          ≡ count_of (claimants.eq-value).it c.args.self.now.by_thread q - (if (claimants.eq-value).it key q then 1 else 0) in
          subst P c.claimant_of.ensures c.in_ok-take_away-4.ensures) (record { thread = thread; resource = resource })
          ∙ ap (λ (n : ℕ). n - (if is_of thread resource c.args.taking then 1 else 0)) (counted.by_thread thread resource)
          ∙ times-less (is_of thread resource) c.args.taking all is;
      number = c.saturating_sub-self.ensures ∙ ap (λ (n : ℕ). n - 1) counted.number ∙ length-without c.args.taking all is;
    }
