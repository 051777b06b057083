-- The reactor that a session gives back.
use Rattle.std.proofs.Common.{◌≡◌, ◌≤◌, ℕ, Option, sym, subst, ◌∙◌}
use Rattle.std.specs.Prelude.{IsTrue}
use Rattle.asio_types.specs.Faults.{Rose}
use Rattle.history_rules.specs.State.{ReactorHalf}
use Rattle.reactor_trait.specs.Reactor.{Outside, ReactorState}
use Rattle.proactor_core.specs.Proactor.{Follows, IsSound, ProactorView, StandsAt, tells}
use Rattle.lane_logs.specs.Names.{SessionNames}
use Rattle.lane_turns.specs.Finishing.{IsGivenBack}
use Rattle.lane_turns.specs.Turning.{KeepsTurns}

pub given_back : {X : Type 0} (names : SessionNames) (state : X → ReactorState) (told : X → Option Outside)
    (faults : X → ℕ) (named : ℕ) (half : ReactorHalf) (view : ProactorView X) (reactor : X) →
    KeepsTurns names state told faults named half view → reactor ≡ view.reactor →
    ((half : ReactorHalf) → IsSound state told view → Follows told view half →
    StandsAt (state reactor) (told reactor) half) →
    IsGivenBack names.told half named (faults reactor) (state reactor) (told reactor)
given_back {X} names state told faults named half view reactor keeps same stands =
    record {
      tells = subst (λ (x : X). tells (told x) ≡ names.told) (sym same) keeps.in_step.tells;
      up = subst (λ (x : X). IsTrue (state x).up) (sym same) keeps.in_step.up;
      now = subst (λ (x : X). (state x).now ≡ half.now) (sym same) keeps.in_step.now;
      least = subst (λ (x : X). named ≤ faults x) (sym same) keeps.least;
      rose = λ failed. subst (λ (x : X). Rose named (faults x)) (sym same) (keeps.rose (sym keeps.failed ∙ failed));
      stood = λ works. subst (λ (x : X). faults x ≡ named) (sym same) (keeps.stood (sym keeps.failed ∙ works));
      sent =
          λ works.
          let turned = keeps.turned (sym keeps.failed ∙ works) in
          (stands half turned.telling.sound turned.telling.follows).sent;
    }
