-- What stays true of an act once it is.
use Rattle.std.proofs.Common.{◌≡◌, ◌≢◌, ◌⊎◌, ℕ, zero, suc, ◌+◌, ◌-◌, ◌<◌, ◌≤◌, Bool, true, false, cond, List, [], ◌∷◌, Some, inl, inr, length, take, refl, sym, ap, subst, ◌∙◌, arith}
use Rattle.std.specs.Prelude.{slice_get}
use Rattle.std.proofs.lemmas.List.{take_all}
use Rattle.asio_types.specs.Faults.{most_faults, one_more}
use Rattle.asio_types.specs.declared.event.Event.{Event}
use Rattle.session_script.specs.Script.{ScriptModel}
use Rattle.session_script.specs.WellFormed.{IsWellFormed}
use Rattle.history_rules.specs.Calls.{is_open, returned}
use Rattle.history_rules.specs.Legal.{IsLegalSoFar, MayHappen, after_event, state_from, state_of}
use Rattle.history_rules.specs.Order.{called_at}
use Rattle.history_rules.specs.State.{State, act_at, first_state}
use Rattle.history_rules.specs.declared.phase.ActState.{ActState}
use Rattle.history_rules.specs.declared.phase.CallPhase.{CallPhase}
use Rattle.history_rules.specs.declared.phase.CallPhase.TheVariants as call
use Rattle.history_laws.specs.Events.{StandsAt}
use Rattle.history_laws.proofs.HistoryLemmas.{moves_after}
use Rattle.history_laws.proofs.LeftLemmas.{counted_after, counts}
use Rattle.history_laws.proofs.LengthLemmas.{IsCounted, counted_so_far, few_so_far}
use Rattle.history_laws.proofs.CountLemmas.{one_more-is}
use Rattle.history_laws.proofs.Moves.{Moves, comes_back, completes, destroys, enters, finishes, further, halts, initiates, starts, stays}
use Rattle.history_laws.proofs.ReachLemmas.{legal_take, may_at}

-- a call that was made stays so, and was made where it was
called_returned : (at : ℕ) (made : CallPhase) → called_at (returned at made) ≡ called_at made
called_returned at call.Uncalled = refl
called_returned at (call.Open called) = refl
called_returned at (call.Stopping called) = refl
called_returned at (call.Back called back) = refl

returned_made : (at : ℕ) (made : CallPhase) → made ≢ call.Uncalled → returned at made ≢ call.Uncalled
returned_made at call.Uncalled called = λ same. called same
returned_made at (call.Open called) is = λ same. absurd (cc)
returned_made at (call.Stopping called) is = λ same. absurd (cc)
returned_made at (call.Back called back) is = λ same. absurd (cc)

-- it was called at this place, by the count of events
pub record WasCalledAt (k : ℕ) (act : ActState) : Type 0 where
  pub made : act.call ≢ call.Uncalled
  pub at : called_at act.call ≡ k

-- its call was back at this place
pub record WasBackAt (k : ℕ) (act : ActState) : Type 0 where
  pub called : ℕ
  pub is : act.call ≡ call.Back called k

module _ (script : ScriptModel) (n : ℕ) (k : ℕ) where
  called_moved : (e : Event) (old new : ActState) → Moves script n e old new → WasCalledAt k old → WasCalledAt k new
  called_moved e old new (stays isnt) was = was
  called_moved e old new (further isnt calling more) was = record { made = was.made; at = was.at }
  called_moved e old new initiates was = absurd (was.made refl)
  called_moved e old new (comes_back at {made = made} opened never) was =
      record { made = returned_made at made was.made; at = called_returned at made ∙ was.at }
  called_moved e old new halts was = record { made = λ same. absurd (cc); at = was.at }
  called_moved e old new starts was = record { made = was.made; at = was.at }
  called_moved e old new enters was = record { made = was.made; at = was.at }
  called_moved e old new (finishes all) was = record { made = was.made; at = was.at }
  called_moved e old new completes was = record { made = was.made; at = was.at }
  called_moved e old new (destroys is isnt never) was = record { made = was.made; at = was.at }

  back_moved : (e : Event) (old new : ActState) → Moves script n e old new → WasBackAt k old → WasBackAt k new
  back_moved e old new (stays isnt) was = was
  back_moved e old new (further isnt calling more) was = record { called = was.called; is = was.is }
  back_moved e old new initiates was = absurd (let wrong : call.Uncalled ≡ call.Back was.called k = was.is in cc)
  back_moved e old new (comes_back at {made = made} opened never) was =
      absurd (let wrong : true ≡ false = sym opened ∙ ap is_open was.is in cc)
  back_moved e old new (halts {at = at}) was =
      absurd (let wrong : call.Open at ≡ call.Back was.called k = was.is in cc)
  back_moved e old new starts was = record { called = was.called; is = was.is }
  back_moved e old new enters was = record { called = was.called; is = was.is }
  back_moved e old new (finishes all) was = record { called = was.called; is = was.is }
  back_moved e old new completes was = record { called = was.called; is = was.is }
  back_moved e old new (destroys is isnt never) was = record { called = was.called; is = was.is }

-- the state behind an event
state_next : (script : ScriptModel) (told : Bool) (s : State) (events : List Event) (place : ℕ) (shown : Event) →
    slice_get events place ≡ Some shown →
    state_from script told s (take (suc place) events)
    ≡ after_event script told (state_from script told s (take place events)) shown
state_next script told s [] place shown stands = absurd (cc)
state_next script told s (first ∷ events) zero shown stands =
    let same : first ≡ shown = cc in ap (after_event script told s) same
state_next script told s (first ∷ events) (suc place) shown stands =
    state_next script told (after_event script told s first) events place shown stands

got : (events : List Event) (place : ℕ) → ((e : Event) × StandsAt events place e) ⊎ (length events ≤ place)
got [] place = inr (omega arith)
got (first ∷ events) zero = inl (first, refl)
got (first ∷ events) (suc place) = elim (got events place) [
  | inl stands ↦ inl stands
  | inr past ↦ inr (omega (arith, past))
]

module _ (script : ScriptModel) (well : IsWellFormed script) (told : Bool) (events : List Event)
    (legal : IsLegalSoFar script told events) where
  abbrev pub at : ℕ → State
  at place = state_of script told (take place events)

  pub counted_at : (place : ℕ) → IsCounted script told (take place events) (at place)
  counted_at place =
      counted_so_far script well told (take place events)
      (legal_take script told (first_state script told) events place legal)

  pub happens : (place : ℕ) (e : Event) → StandsAt events place e → MayHappen script told (at place) e
  happens place e stands = may_at script told (first_state script told) events place e legal stands

  pub next : (place : ℕ) (e : Event) → StandsAt events place e → at (suc place) ≡ after_event script told (at place) e
  next place e stands = state_next script told (first_state script told) events place e stands

  -- what each event keeps holds from one place to each later one
  module _ (Q : State → Type 0)
      (step : (place : ℕ) (e : Event) → MayHappen script told (at place) e → Q (at place) →
      Q (after_event script told (at place) e)) where
    further_on : (place more : ℕ) → Q (at place) → Q (at (place + more))
    further_on place zero holds = subst (λ (k : ℕ). Q (at k)) (omega arith) holds
    further_on place (suc more) holds =
        let here : Q (at (place + more)) = further_on place more holds in
        subst (λ (k : ℕ). Q (at k)) (let e : suc (place + more) ≡ place + suc more = omega arith in e)
        (elim (got events (place + more)) [
          | inl stands ↦
              subst Q (sym (next (place + more) stands.0 stands.1))
              (step (place + more) stands.0 (happens (place + more) stands.0 stands.1) here)
          | inr past ↦
              let same : take (suc (place + more)) events ≡ take (place + more) events =
              take_all (suc (place + more)) events (omega (arith, past)) ∙ sym (take_all (place + more) events past) in
              subst (λ (xs : List Event). Q (state_of script told xs)) (sym same) here
        ])

    pub later_on : (place later : ℕ) → place ≤ later → Q (at place) → Q (at later)
    later_on place later less holds =
        subst (λ (k : ℕ). Q (at k)) (let e : place + (later - place) ≡ later = omega (arith, less) in e)
        (further_on place (later - place) holds)

  pub stays_called : (n k place later : ℕ) → place ≤ later → WasCalledAt k (act_at (at place).context n) →
      WasCalledAt k (act_at (at later).context n)
  stays_called n k place later less was =
      later_on (λ s. WasCalledAt k (act_at s.context n))
      (λ place e may was.
      called_moved script n k e (act_at (at place).context n) (act_at (after_event script told (at place) e).context n)
      (moves_after script well told (at place) (counted_at place).shown.sound e may n) was) place later less was

  pub stays_back : (n k place later : ℕ) → place ≤ later → WasBackAt k (act_at (at place).context n) →
      WasBackAt k (act_at (at later).context n)
  stays_back n k place later less was =
      later_on (λ s. WasBackAt k (act_at s.context n))
      (λ place e may was.
      back_moved script n k e (act_at (at place).context n) (act_at (after_event script told (at place) e).context n)
      (moves_after script well told (at place) (counted_at place).shown.sound e may n) was) place later less was

  counted_up : (b : Bool) (k n : ℕ) → n < most_faults → k ≤ n → k ≤ cond b (one_more n) n
  counted_up true k n few less = let more = one_more-is n few in omega (arith, more, less)
  counted_up false k n few less = less

  -- the count of events rises
  pub stays_past : (k place later : ℕ) → place ≤ later → k ≤ (at place).context.events → k ≤ (at later).context.events
  stays_past k place later less past =
      later_on (λ s. k ≤ s.context.events)
      (λ place e may past.
      let rose = counted_after script well told (at place) (counted_at place).shown.sound (counted_at place).ahead e may in
      let few = few_so_far script well told (take place events) (at place) (counted_at place) in
      let up = counted_up (counts e) k (at place).context.events few past in
      omega (arith, rose, up)) place later less past
