-- Histories and executions in parts.
use Rattle.std.proofs.Common.{◌≡◌, Bool, List, [], ◌∷◌, ◌++◌, refl, subst}
use Rattle.asio_types.specs.declared.event.Event.{Event}
use Rattle.session_script.specs.Script.{ScriptModel}
use Rattle.history_rules.specs.Legal.{IsLegalFrom, IsLegalSoFar, after_event, state_from, state_of}
use Rattle.history_rules.specs.State.{State, first_state}
use Rattle.strand_core.specs.Execution.{events_of}
use Rattle.strand_core.specs.declared.posted.Posted.{Posted}
use Rattle.execution_laws.proofs.EventLemmas.{events-append, legal-append, state_from-append}
use Rattle.book_context.specs.Parts.{IsLegalInParts}

module _ (script : ScriptModel) (told : Bool) where
  legal_parts : (s : State) (xs ys : List Event) → IsLegalFrom script told s (xs ++ ys) →
      IsLegalFrom script told s xs × IsLegalFrom script told (state_from script told s xs) ys
  legal_parts s [] ys legal = (tt, legal)
  legal_parts s (x ∷ xs) ys legal =
      let rest = legal_parts (after_event script told s x) xs ys legal.1 in ((legal.0, rest.0), rest.1)

  pub in_parts : (s : State) (first rest : List Posted) → IsLegalFrom script told s (events_of script (first ++ rest)) →
      IsLegalInParts script told s first rest
  in_parts s first rest legal =
      let parts =
      legal_parts s (events_of script first) (events_of script rest)
      (subst (IsLegalFrom script told s) (events-append script first rest) legal) in
      record { first_legal = parts.0; rest_legal = parts.1 }

  pub history_goes_on : (history events : List Event) → IsLegalSoFar script told history →
      IsLegalFrom script told (state_of script told history) events → IsLegalSoFar script told (history ++ events)
  history_goes_on history events legal more =
      legal-append script told (first_state script told) (state_of script told history) history events legal refl more

  pub state_goes_on : (history events : List Event) →
      state_of script told (history ++ events) ≡ state_from script told (state_of script told history) events
  state_goes_on history events =
      state_from-append script told (first_state script told) (state_of script told history)
      (state_from script told (state_of script told history) events) history events refl refl
