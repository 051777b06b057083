-- A session that a number makes whose round has closed: nothing more happens that its summary tells.
use Rattle.std.proofs.Common.{◌≡◌, ◌⊎◌, ℕ, inl, inr, Bool, true, false, ◌||◌, cond, List, [], ◌∷◌, length, Some, None, refl, ap, sym, ◌∙◌, arith}
use Rattle.std.specs.Option.{IsSomeAnd}
use Rattle.std.specs.List.{count_by, list_any, slice_set, sum_by}
use Rattle.std.proofs.Math.ListN.{length-set}
use Rattle.std.proofs.lemmas.Bool.{cases_eq, cases_lt}
use Rattle.std.proofs.lemmas.List.{get_or-set_same, get_or-set_other, get_or_past}
use Rattle.std.proofs.lemmas.List.Sums.{sum_by-cons}
use Rattle.asio_types.specs.declared.event.Event.{Event}
use Rattle.asio_types.specs.declared.event.Event.TheVariants as event
use Rattle.session_script.specs.Script.{Entry, Place, is_stop, opening_of}
use Rattle.history_rules.specs.FromOutside.{is_fault, is_outside_stop}
use Rattle.history_rules.specs.Calls.{IsNextOf, body_at, limited, progressed, returned, with_progress}
use Rattle.history_rules.specs.Kinds.{is_act}
use Rattle.history_rules.specs.Legal.{IsLegalFrom, MayHappen, after_event}
use Rattle.history_rules.specs.Rounds.{HasRoundLeft, is_unspent}
use Rattle.history_rules.specs.State.{ContextState, State, fresh, with_call}
use Rattle.history_rules.specs.declared.phase.ActPhase.{ActPhase}
use Rattle.history_rules.specs.declared.phase.ActPhase.TheVariants as phase
use Rattle.history_rules.specs.declared.phase.ActState.{ActState}
use Rattle.history_rules.specs.declared.phase.Step.TheVariants as step
use Rattle.generated_session.specs.Generator.{session_of}
use Rattle.generated_session.specs.Summary.{closing_from, is_abort, is_call, is_drop, time_from}
use Rattle.generated_session.specs.declared.tally.Closing.TheVariants as closing
use Rattle.generated_session.proofs.ActEventsLemmas.{finished}
use Rattle.generated_session.proofs.CallEventsLemmas.{caller_of, opening_over}
use Rattle.generated_session.proofs.DoneLemmas.{what_is_due}
use Rattle.generated_session.proofs.FitLemmas.{is_act-in, never_stops}
use Rattle.generated_session.proofs.GatherLemmas.{one_if}
use Rattle.generated_session.proofs.GoingLemmas.{end_weight}
use Rattle.generated_session.proofs.ItemsLemmas.{AreItems, known, nth_place}
use Rattle.generated_session.proofs.StatesLemmas.{at}

pub record Closed (acts : List Entry) (s : State) : Type 0 where
  pub made : s.context.opening.made ≡ length (opening_of (session_of acts))
  pub closings : s.context.closings ≡ 1
  pub spent : (n : ℕ) → is_unspent (at s.context.acts n).phase ≡ false
  pub due : s.reactor.due ≡ []
  pub working : s.reactor.failed ≡ false

abbrev pub is_return : Event → Bool
is_return (event.Back a) = true
is_return _ = false

-- what is in a list once one element was set
set_either : (states : List ActState) (o : ℕ) (to : ActState) (n : ℕ) →
    (at (slice_set states o to) n ≡ to) ⊎ (at (slice_set states o to) n ≡ at states n)
set_either states o to n = elim (cases_eq n o) [
  | inr differ ↦ inr (get_or-set_other states o n to fresh differ)
  | inl same ↦ elim (cases_lt o (length states)) [
    | inl less ↦ inl (ap (at (slice_set states o to)) same ∙ get_or-set_same states o to fresh less)
    | inr past ↦
        inr (get_or_past (slice_set states o to) n fresh
        (let size = length-set states o to in omega (arith, past, same, size))
        ∙ sym (get_or_past states n fresh (omega (arith, past, same))))
  ]
]

spent_either : (states : List ActState) (o : ℕ) (to : ActState) → is_unspent to.phase ≡ false →
    ((n : ℕ) → is_unspent (at states n).phase ≡ false) → (n : ℕ) →
    is_unspent (at (slice_set states o to) n).phase ≡ false
spent_either states o to here all n = elim (set_either states o to n) [
  | inl is ↦ ap (λ (act : ActState). is_unspent act.phase) is ∙ here
  | inr is ↦ ap (λ (act : ActState). is_unspent act.phase) is ∙ all n
]

progressed_spent : (q : ActPhase) → is_unspent q ≡ false → is_unspent (progressed step.Back q) ≡ false
progressed_spent (phase.Running c progress) spent = spent
progressed_spent phase.Absent spent = spent
progressed_spent phase.Inside spent = spent
progressed_spent phase.Requested spent = spent
progressed_spent (phase.Ready code size why) spent = spent
progressed_spent phase.Ended spent = spent
progressed_spent phase.Dropped spent = spent
progressed_spent phase.Asked spent = spent

module _ (acts : List Entry) (items : AreItems 0 acts) (told : Bool) (s : State) (was : Closed acts s) where
  no_round : HasRoundLeft (session_of acts) s.context → ⊥
  no_round round = let left = round.left in let all = was.closings in absurd (omega (arith, left, all))

  unspent : (n : ℕ) (q : ActPhase) → (at s.context.acts n).phase ≡ q → is_unspent q ≡ true → ⊥
  unspent n q is live = let wrong : false ≡ true = sym (was.spent n) ∙ (ap is_unspent is ∙ live) in cc

  no_call : (a : ℕ) (place : Place) →
      IsSomeAnd (body_at (session_of acts) s.reactor.failed s.context place) (IsNextOf a) → ⊥
  no_call a None may = opening_over acts s.reactor.failed s.context a was.working was.made may
  no_call a (Some place) may =
      let caller = caller_of acts place.0 a place.1 (at s.context.acts place.0).phase may in
      unspent place.0 (phase.Running caller.running caller.progress) caller.is refl

  abbrev half : ℕ → ContextState
  half a = with_call s.context a (returned s.context.events (at s.context.acts a).call)

  half_spent : (a n : ℕ) → is_unspent (at (half a).acts n).phase ≡ false
  half_spent a n =
      spent_either s.context.acts a (record (at s.context.acts a) { call = returned s.context.events (at s.context.acts a).call })
      (was.spent a) was.spent n

  made_same : (a : ℕ) (place : Place) → (with_progress place step.Back (half a)).opening.made ≡ s.context.opening.made
  made_same a None = refl
  made_same a (Some place) = refl

  closings_same : (a : ℕ) (place : Place) → (with_progress place step.Back (half a)).closings ≡ s.context.closings
  closings_same a None = refl
  closings_same a (Some place) = refl

  spent_after : (a : ℕ) (place : Place) (n : ℕ) →
      is_unspent (at (with_progress place step.Back (half a)).acts n).phase ≡ false
  spent_after a None n = half_spent a n
  spent_after a (Some place) n =
      let before : ActState = at (half a).acts place.0 in
      spent_either (half a).acts place.0 (record before { phase = progressed step.Back before.phase })
      (progressed_spent before.phase (half_spent a place.0)) (half_spent a) n

  closed_back : (a : ℕ) → is_act is_stop (session_of acts) a ≡ false →
      Closed acts (after_event (session_of acts) told s (event.Back a))
  closed_back a never =
      let place : Place = nth_place acts a in
      let x : ContextState = with_progress place step.Back (half a) in
      let limits : ContextState = limited (session_of acts) a place x in
      record {
        made = ap (λ b. (cond b limits x).opening.made) never ∙ made_same a place ∙ was.made;
        closings = ap (λ b. (cond b limits x).closings) never ∙ closings_same a place ∙ was.closings;
        spent = λ n. ap (λ b. is_unspent (at (cond b limits x).acts n).phase) never ∙ spent_after a place n;
        due = was.due;
        working = was.working;
      }

  -- calls may return, and nothing else comes
  pub closed_on : (e : Event) → MayHappen (session_of acts) told s e → is_fault e ≡ false → is_outside_stop e ≡ false →
      (is_return e ≡ true) × Closed acts (after_event (session_of acts) told s e)
  closed_on (event.Call a) may works runs_on = absurd (no_call a (nth_place acts a) may)
  closed_on (event.Back a) may works runs_on =
      (refl, closed_back a (is_act-in is_stop acts a ∙ never_stops (known acts items a)))
  closed_on (event.Stop (Some a)) may works runs_on =
      absurd (let wrong : false ≡ true = sym (is_act-in is_stop acts a ∙ never_stops (known acts items a)) ∙ may.stops in cc)
  closed_on (event.Stop None) may works runs_on = absurd (cc)
  closed_on (event.Begin o given size) may works runs_on = elim may [
    | inl outside ↦ absurd (no_round outside.round.begun)
    | inr inside ↦ absurd (unspent o phase.Inside inside.inside refl)
  ]
  closed_on (event.End o mark) may works runs_on =
      let done = finished acts o (at s.context.acts o).phase may in
      absurd (unspent o (phase.Running done.class done.progress) done.is refl)
  closed_on (event.Take a) may works runs_on = absurd (no_round may.turn.round.begun)
  closed_on (event.Done o given size) may works runs_on =
      let due = what_is_due (session_of acts) told s.reactor o given size (known acts items o) may.next in
      absurd (let wrong : [] ≡ due.head ∷ due.rest = sym was.due ∙ due.due in cc)
  closed_on (event.Tick time) may works runs_on = absurd (no_round may.idle.turn.round.begun)
  closed_on event.Last may works runs_on = absurd (no_round may.idle.turn.round.begun)
  closed_on event.Fault may works runs_on = absurd (cc)
  closed_on event.Ended may works runs_on = absurd (no_round may.round.begun)
  closed_on event.Stopped may works runs_on = absurd (no_round may.round.begun)
  closed_on event.Polled may works runs_on = absurd (no_round may.round.begun)
  closed_on event.Restart may works runs_on = absurd (no_round may.begun)
  closed_on (event.Dropped o mark) may works runs_on =
      absurd (let wrong : false ≡ true = sym (was.spent o) ∙ may.next.left in cc)

-- events that a summary doesn't tell
pub record AreSilent (events : List Event) : Type 0 where
  pub calls : count_by is_call events ≡ 0
  pub ends : (weight : ℕ → ℕ) → sum_by (end_weight weight) events ≡ 0
  pub drops : count_by is_drop events ≡ 0
  pub aborts : count_by is_abort events ≡ 0
  pub time : (now : ℕ) → time_from now events ≡ now
  pub closed : closing_from closing.Ended events ≡ closing.Ended

silent_return : (e : Event) (events : List Event) → is_return e ≡ true → AreSilent events → AreSilent (e ∷ events)
silent_return (event.Back a) events is rest = record {
  calls =
      let one = sum_by-cons (λ e. one_if (is_call e)) (event.Back a) events in
      let more = rest.calls in omega (arith, one, more);
  ends =
      λ weight. let one = sum_by-cons (end_weight weight) (event.Back a) events in let more = rest.ends weight in omega
      (arith, one, more);
  drops =
      let one = sum_by-cons (λ e. one_if (is_drop e)) (event.Back a) events in
      let more = rest.drops in omega (arith, one, more);
  aborts =
      let one = sum_by-cons (λ e. one_if (is_abort e)) (event.Back a) events in
      let more = rest.aborts in omega (arith, one, more);
  time = rest.time;
  closed = rest.closed;
}
silent_return e events is rest = absurd (cc)

pub or_parts : (a b : Bool) → (a || b) ≡ false → (a ≡ false) × (b ≡ false)
or_parts true b none = absurd (cc)
or_parts false b none = (refl, none)

-- all that comes after the closing is silent
pub silent_from : (acts : List Entry) (items : AreItems 0 acts) (told : Bool) (events : List Event) (s : State) →
    Closed acts s → IsLegalFrom (session_of acts) told s events → list_any is_fault events ≡ false →
    list_any is_outside_stop events ≡ false → AreSilent events
silent_from acts items told [] s was legal works runs_on = record {
  calls = refl;
  ends = λ weight. refl;
  drops = refl;
  aborts = refl;
  time = λ now. refl;
  closed = refl;
}
silent_from acts items told (e ∷ events) s was legal works runs_on =
    let no_fault = or_parts (is_fault e) (list_any is_fault events) works in
    let no_stop = or_parts (is_outside_stop e) (list_any is_outside_stop events) runs_on in
    let next = closed_on acts items told s was e legal.0 no_fault.0 no_stop.0 in
    silent_return e events next.0 (silent_from acts items told events
    (after_event (session_of acts) told s e) next.1 legal.1 no_fault.1 no_stop.1)
