-- Calls whose events are legal one after another, and leave the reactor as it is.
use Rattle.std.proofs.Common.{◌≡◌, Bool, true, false, cond, List, [], ◌∷◌, ◌++◌, length, refl, sym, ap, subst, ◌∙◌}
use Rattle.std.specs.Prelude.{Some}
use Rattle.asio_types.specs.declared.event.Event.{Event}
use Rattle.asio_types.specs.declared.event.Event.TheVariants as event
use Rattle.session_script.specs.Script.{ScriptModel, stops}
use Rattle.history_rules.specs.Legal.{IsLegalFrom, after_event, state_from}
use Rattle.history_rules.specs.State.{ContextState, ReactorHalf, State}
use Rattle.strand_core.specs.Execution.{events_of}
use Rattle.strand_core.specs.declared.posted.Posted.{Posted}
use Rattle.strand_core.specs.declared.posted.Posted.TheVariants as posted
use Rattle.execution_laws.proofs.CountLemmas.{later, later-append}

called_append : (stops : Bool) (first second : Event) (xs ys all : List Event) → all ≡ xs ++ ys →
    cond stops (first ∷ second ∷ all) (first ∷ all) ≡ cond stops (first ∷ second ∷ xs) (first ∷ xs) ++ ys
called_append true first second xs ys all same = ap (λ events. first ∷ second ∷ events) same
called_append false first second xs ys all same = ap (λ events. first ∷ events) same

pub events-append : (script : ScriptModel) (xs ys : List Posted) →
    events_of script (xs ++ ys) ≡ events_of script xs ++ events_of script ys
events-append script [] ys = refl
events-append script (posted.Begin op code size begun ∷ xs) ys =
    ap (λ events. event.Begin op code size ∷ events) (events-append script xs ys)
events-append script (posted.Call act ∷ xs) ys =
    called_append (stops script act) (event.Call act) (event.Stop (Some act)) (events_of script xs)
    (events_of script ys) (events_of script (xs ++ ys)) (events-append script xs ys)
events-append script (posted.Back act ∷ xs) ys = ap (λ events. event.Back act ∷ events) (events-append script xs ys)
events-append script (posted.End op ran ∷ xs) ys =
    ap (λ events. event.End op ran.mark ∷ events) (events-append script xs ys)

module _ (script : ScriptModel) (told : Bool) where
  pub state_from-append : (s t u : State) (xs ys : List Event) → state_from script told s xs ≡ t →
      state_from script told t ys ≡ u → state_from script told s (xs ++ ys) ≡ u
  state_from-append s t u [] ys first second = ap (λ state. state_from script told state ys) first ∙ second
  state_from-append s t u (x ∷ xs) ys first second =
      state_from-append (after_event script told s x) t u xs ys first second

  pub legal-append : (s t : State) (xs ys : List Event) → IsLegalFrom script told s xs →
      state_from script told s xs ≡ t → IsLegalFrom script told t ys → IsLegalFrom script told s (xs ++ ys)
  legal-append s t [] ys legal is more = subst (λ state. IsLegalFrom script told state ys) (sym is) more
  legal-append s t (x ∷ xs) ys legal is more =
      (legal.0, legal-append (after_event script told s x) t xs ys legal.1 is more)

  -- these calls take one context to another
  pub record Goes (r : ReactorHalf) (s : ContextState) (calls : List Posted) (t : ContextState) : Type 0 where
    pub legal : IsLegalFrom script told (record { context = s; reactor = r }) (events_of script calls)
    pub is : state_from script told (record { context = s; reactor = r }) (events_of script calls)
        ≡ record { context = t; reactor = r }
    pub count : t.events ≡ later (length (events_of script calls)) s.events

  pub goes-none : (r : ReactorHalf) (s : ContextState) → Goes r s [] s
  goes-none r s = record { legal = tt; is = refl; count = refl }

  pub goes-both : (r : ReactorHalf) (s t u : ContextState) (xs ys : List Posted) → Goes r s xs t → Goes r t ys u →
      Goes r s (xs ++ ys) u
  goes-both r s t u xs ys first second =
      let before : State = record { context = s; reactor = r } in
      let between : State = record { context = t; reactor = r } in
      let after : State = record { context = u; reactor = r } in
      let apart : events_of script xs ++ events_of script ys ≡ events_of script (xs ++ ys) =
      sym (events-append script xs ys) in
      record {
        legal =
            subst (IsLegalFrom script told before) apart
            (legal-append before between (events_of script xs) (events_of script ys) first.legal first.is
            second.legal);
        is =
            subst (λ events. state_from script told before events ≡ after) apart
            (state_from-append before between after (events_of script xs) (events_of script ys) first.is second.is);
        count = second.count
            ∙ (ap (later (length (events_of script ys))) first.count
            ∙ (sym (later-append (events_of script xs) (events_of script ys) s.events)
            ∙ ap (λ events. later (length events) s.events) apart));
      }

  -- calls that are these events
  pub goes-by : (r : ReactorHalf) (s t : ContextState) (calls : List Posted) (events : List Event) →
      events_of script calls ≡ events → IsLegalFrom script told (record { context = s; reactor = r }) events →
      state_from script told (record { context = s; reactor = r }) events ≡ record { context = t; reactor = r } →
      t.events ≡ later (length events) s.events → Goes r s calls t
  goes-by r s t calls events same legal is count = record {
    legal = subst (IsLegalFrom script told (record { context = s; reactor = r })) (sym same) legal;
    is =
        subst
        (λ events.
        state_from script told (record { context = s; reactor = r }) events ≡ record { context = t; reactor = r })
        (sym same) is;
    count = count ∙ ap (λ events. later (length events) s.events) (sym same);
  }
