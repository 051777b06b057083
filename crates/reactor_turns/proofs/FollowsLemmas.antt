-- What a proactor that follows a history tells of it.
use Rattle.std.proofs.Common.{◌≡◌, false, Option, inl, inr, sym, ap, ◌∙◌}
use Rattle.std.proofs.lemmas.Bool.{cases_Bool}
use Rattle.history_rules.specs.State.{ReactorHalf}
use Rattle.reactor_trait.specs.Reactor.{Outside, ReactorState}
use Rattle.proactor_core.specs.Proactor.{Follows, IsSound, ProactorView, tells}
use Rattle.proactor_core.proofs.UntoldRestLemmas.{untold-answers}

module _ {X : Type 0} (state : X → ReactorState) (told : X → Option Outside) (view : ProactorView X) where
  pub sound_works : IsSound state told view → view.tables.failed ≡ false
  sound_works sound = sound.turning.room.working

pub follows_taken : {X : Type 0} (told : X → Option Outside) (view : ProactorView X) (half : ReactorHalf) →
    Follows told view half → half.taken ≡ view.tables.taken
follows_taken told view half follows = elim (cases_Bool (tells (told view.reactor))) [
  | inl yes_told ↦ sym (ap (λ (h : ReactorHalf). h.taken) (follows.where_told yes_told).works)
  | inr untold ↦
      let other = follows.where_untold untold in
      (untold-answers view.script other.mid half other.untold).taken
      ∙ sym (ap (λ (h : ReactorHalf). h.taken) other.is_at.works)
]
