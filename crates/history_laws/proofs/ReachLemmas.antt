-- From one event of a legal history to the next.
use Rattle.std.proofs.Common.{◌≡◌, ℕ, zero, suc, List, [], ◌∷◌, ◌++◌, Some, take, sym, subst, append_assoc}
use Rattle.std.proofs.lemmas.List.{append-nil}
use Rattle.std.specs.Prelude.{Bool, slice_get}
use Rattle.asio_types.specs.declared.event.Event.{Event}
use Rattle.session_script.specs.Script.{ScriptModel}
use Rattle.history_rules.specs.Legal.{IsLegalFrom, MayHappen, after_event, state_from}
use Rattle.history_rules.specs.State.{State}

module _ (script : ScriptModel) (told : Bool) where
  -- an event of a legal history may happen in the state before it
  pub may_at : (s : State) (events : List Event) (place : ℕ) (shown : Event) → IsLegalFrom script told s events →
      slice_get events place ≡ Some shown → MayHappen script told (state_from script told s (take place events)) shown
  may_at s [] place shown legal stands = absurd (cc)
  may_at s (first ∷ events) zero shown legal stands =
      let same : first ≡ shown = cc in subst (MayHappen script told s) same legal.0
  may_at s (first ∷ events) (suc place) shown legal stands =
      may_at (after_event script told s first) events place shown legal.1 stands

  -- the first events of a legal history are legal
  pub legal_take : (s : State) (events : List Event) (place : ℕ) → IsLegalFrom script told s events →
      IsLegalFrom script told s (take place events)
  legal_take s events zero legal = tt
  legal_take s [] (suc place) legal = tt
  legal_take s (first ∷ events) (suc place) legal =
      (legal.0, legal_take (after_event script told s first) events place legal.1)

  -- what each event keeps holds along a legal history
  pub along : (P : List Event → State → Type 0) →
      ((before : List Event) (s : State) (e : Event) → P before s → MayHappen script told s e →
      P (before ++ e ∷ []) (after_event script told s e)) → (before : List Event) (s : State) → P before s →
      (events : List Event) → IsLegalFrom script told s events →
      P (before ++ events) (state_from script told s events)
  along P step before s holds [] legal = subst (λ (xs : List Event). P xs s) (sym (append-nil before)) holds
  along P step before s holds (e ∷ events) legal =
      subst (λ (xs : List Event). P xs (state_from script told (after_event script told s e) events))
      (append_assoc before (e ∷ []) events)
      (along P step (before ++ e ∷ []) (after_event script told s e) (step before s e holds legal.0) events legal.1)
