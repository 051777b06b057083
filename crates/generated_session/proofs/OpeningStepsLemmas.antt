-- One call of `open` in a session that a number makes, and its return.
use Rattle.std.proofs.Common.{◌≡◌, ◌≢◌, ◌⊎◌, ℕ, ◌+◌, ◌<◌, ◌≤◌, inl, inr, suc, Bool, true, false, cond, List, ◌∷◌, length, Option, Some, None, refl, ap, sym, ◌∙◌, subst, arith}
use Rattle.std.specs.List.{slice_get, slice_set}
use Rattle.std.proofs.lemmas.Bool.{cases_Bool, cases_eq, cases_lt, lt-ltb, ltb-true}
use Rattle.std.proofs.lemmas.Option.{slice_get_within}
use Rattle.asio_types.specs.Faults.{one_more}
use Rattle.asio_types.specs.declared.event.Event.{Event}
use Rattle.asio_types.specs.declared.event.Event.TheVariants as event
use Rattle.session_script.specs.Script.{Entry, Place, is_stop, opening_of}
use Rattle.history_rules.specs.FromOutside.{is_fault, is_outside_stop}
use Rattle.history_rules.specs.Calls.{accepted, has_ended, is_made, limited, returned, with_progress}
use Rattle.history_rules.specs.Kinds.{is_act}
use Rattle.history_rules.specs.Legal.{MayHappen, after_event}
use Rattle.history_rules.specs.Order.{called_at, is_back_before}
use Rattle.history_rules.specs.State.{ContextState, State, fresh, with_call}
use Rattle.history_rules.specs.declared.phase.ActState.{ActState}
use Rattle.history_rules.specs.declared.phase.CallPhase.{CallPhase}
use Rattle.history_rules.specs.declared.phase.CallPhase.TheVariants as call
use Rattle.history_rules.specs.declared.phase.Step.TheVariants as step
use Rattle.generated_session.specs.Generator.{session_of}
use Rattle.generated_session.proofs.CallEventsLemmas.{accepted_runs, made_not_back}
use Rattle.generated_session.proofs.FitLemmas.{is_act-in, is_back, is_called, never_stops}
use Rattle.generated_session.proofs.GatherLemmas.{one_if}
use Rattle.generated_session.proofs.ItemsLemmas.{AreItems, known, nth_place}
use Rattle.generated_session.proofs.LengthLemmas.{few_numbers}
use Rattle.generated_session.proofs.ListedLemmas.{opens, passes}
use Rattle.generated_session.proofs.OpeningLemmas.{IsBackAt, Opening, accepted_still, back_made, calls_only, is_still, is_the_call, is_the_return, is_turn, next_call}
use Rattle.generated_session.proofs.PlainLemmas.{Tells}
use Rattle.generated_session.proofs.StatesLemmas.{Changes, at, called-changed, changed, ended-changed, is_opened, opened_place}

small_more : (n : ℕ) → n < 4096 → one_more n ≡ n + 1
small_more n small = omega (arith, small)

-- an act of `open` is there
pub opened_within : (acts : List Entry) (n : ℕ) → is_opened acts n ≡ true → n < length acts
opened_within acts n is = by_entry (slice_get acts n) refl is
  where
    by_entry : (e : Option Entry) → slice_get acts n ≡ e → passes opens e ≡ true → n < length acts
    by_entry None there is = absurd (cc is)
    by_entry (Some e) there is = slice_get_within acts n e there

same_number : (a h : ℕ) → Some a ≡ Some h → a ≡ h
same_number a h same = cc

module _ (acts : List Entry) (items : AreItems 0 acts) (told : Bool) (few : length acts ≤ 1024) (s : State) (from h : ℕ)
    (rest : List ℕ) (was : Opening acts told s from (h ∷ rest)) where
  script_opening : List ℕ
  script_opening = opening_of (session_of acts)

  few_made : s.context.opening.made < 1024
  few_made = let made = was.made in let bound = few_numbers None 0 acts in omega (arith, made, bound, few)

  unopened : s.context.opening.back ≢ length (opening_of (session_of acts))
  unopened all = let made = was.made in let back = was.back in absurd (omega (arith, made, back, all))

  -- what an act has come to so far
  by_place : (n : ℕ) →
      (at s.context.acts n ≡ fresh) ⊎ ((is_opened acts n ≡ true) × IsBackAt acts s.context.acts s.context.events n)
  by_place n = elim (cases_Bool (is_opened acts n)) [
    | inr outside ↦ inl (was.rest n (inl outside))
    | inl inside ↦ elim (cases_lt n from) [
      | inl before ↦ inr (inside, was.called n inside before)
      | inr after ↦ inl (was.rest n (inr after))
    ]
  ]

  pub still_now : (n : ℕ) → is_still (at s.context.acts n).phase ≡ true
  still_now n = elim (by_place n) [
    | inl new ↦ ap (λ (act : ActState). is_still act.phase) new
    | inr called ↦ ap is_still called.1.phase ∙ accepted_still acts n (opened_place acts n called.0)
  ]

  none_made : (n : ℕ) → is_made (at s.context.acts n).call ≡ true → ⊥
  none_made n made = elim (by_place n) [
    | inl new ↦ (let wrong : false ≡ true = sym (ap (λ (act : ActState). is_made act.call) new) ∙ made in cc)
    | inr called ↦ made_not_back (at s.context.acts n).call made called.1.back
  ]

  -- the next event is the call of the next act
  pub idle_event : (e : Event) → MayHappen (session_of acts) told s e → is_fault e ≡ false → is_outside_stop e ≡ false →
      e ≡ event.Call h
  idle_event e may fine goes = elim (cases_Bool (is_turn e)) [
    | inl turn ↦ absurd (calls_only acts items told s unopened still_now was.reactor was.closings e may fine goes turn)
    | inr call_or_back ↦ is_the_call e h call_or_back
        (λ a is.
        let may_call : MayHappen (session_of acts) told s (event.Call a) =
        subst (λ (x : Event). MayHappen (session_of acts) told s x) is may in
        let next = next_call acts items told s unopened still_now was.reactor was.closings a may_call in
        let at_zero : s.context.opening.made ≡ s.context.opening.made + 0 = omega arith in
        same_number a h (sym next.next ∙ ap (slice_get (opening_of (session_of acts))) at_zero ∙ was.next 0))
        (λ a is.
        let may_return : MayHappen (session_of acts) told s (event.Back a) =
        subst (λ (x : Event). MayHappen (session_of acts) told s x) is may in
        none_made a (back_made acts items told s unopened still_now was.reactor was.closings a may_return))
  ]

  abbrev pub called_to : ActState
  called_to = record { call = call.Open s.context.events; phase = accepted (session_of acts) h }

  abbrev pub called_state : State
  called_state = after_event (session_of acts) told s (event.Call h)

  place_none : nth_place acts h ≡ None
  place_none = opened_place acts h was.listed.2

  below : h < length s.context.acts
  below = let inside = opened_within acts h was.listed.2 in let size = was.size in omega (arith, inside, size)

  pub call_changes : Changes s.context.acts called_state.context.acts h called_to
  call_changes =
      let same : called_state.context.acts ≡ slice_set s.context.acts h called_to =
      ap (λ (q : Place). slice_set (with_progress q step.Made s.context).acts h called_to) place_none in
      subst (λ (states : List ActState). Changes s.context.acts states h called_to) (sym same)
      (changed s.context.acts h called_to below)

  pub called_made : called_state.context.opening.made ≡ s.context.opening.made + 1
  called_made =
      ap (λ (q : Place). (with_progress q step.Made s.context).opening.made) place_none
      ∙ small_more s.context.opening.made (let small = few_made in omega (arith, small))

  pub called_back : called_state.context.opening.back ≡ s.context.opening.back
  called_back = ap (λ (q : Place). (with_progress q step.Made s.context).opening.back) place_none

  pub called_stopped : called_state.context.stopped ≡ s.context.stopped
  called_stopped = ap (λ (q : Place). (with_progress q step.Made s.context).stopped) place_none

  pub called_closings : called_state.context.closings ≡ s.context.closings
  called_closings = ap (λ (q : Place). (with_progress q step.Made s.context).closings) place_none

  pub called_events : called_state.context.events ≡ s.context.events + 1
  called_events =
      ap (λ (q : Place). one_more (with_progress q step.Made s.context).events) place_none
      ∙ small_more s.context.events (let small = few_made in let events = was.events in omega (arith, small, events))

  still_called : (n : ℕ) → is_still (at called_state.context.acts n).phase ≡ true
  still_called n = elim (cases_eq n h) [
    | inl same ↦ ap (λ m. is_still (at called_state.context.acts m).phase) same
        ∙ ap (λ (act : ActState). is_still act.phase) call_changes.here ∙ accepted_still acts h place_none
    | inr differ ↦ ap (λ (act : ActState). is_still act.phase) (call_changes.others n differ) ∙ still_now n
  ]

  unopened_called : called_state.context.opening.back ≢ length (opening_of (session_of acts))
  unopened_called all = unopened (sym called_back ∙ all)

  -- the next event is its return
  pub half_event : (e : Event) → MayHappen (session_of acts) told called_state e → is_fault e ≡ false →
      is_outside_stop e ≡ false → e ≡ event.Back h
  half_event e may fine goes =
      let closings : called_state.context.closings ≡ 0 = called_closings ∙ was.closings in
      elim (cases_Bool (is_turn e)) [
        | inl turn ↦ absurd
            (calls_only acts items told called_state unopened_called still_called was.reactor closings e may fine goes turn)
        | inr call_or_back ↦ is_the_return e h call_or_back
            (λ a is.
            let may_call : MayHappen (session_of acts) told called_state (event.Call a) =
            subst (λ (x : Event). MayHappen (session_of acts) told called_state x) is may in
            let next =
            next_call acts items told called_state unopened_called still_called was.reactor closings a may_call in
            let idle = next.idle in
            let made = called_made in
            let back = called_back in
            let before = was.back in
            absurd (omega (arith, idle, made, back, before)))
            (λ a is.
            let may_return : MayHappen (session_of acts) told called_state (event.Back a) =
            subst (λ (x : Event). MayHappen (session_of acts) told called_state x) is may in
            let made =
            back_made acts items told called_state unopened_called still_called was.reactor closings a may_return in
            elim (cases_eq a h) [
              | inl same ↦ same
              | inr differ ↦
                  absurd (none_made a (sym (ap (λ (act : ActState). is_made act.call) (call_changes.others a differ)) ∙ made))
            ])
      ]

  abbrev pub back_to : ActState
  back_to = record {
    call = call.Back s.context.events called_state.context.events;
    phase = accepted (session_of acts) h;
  }

  abbrev pub back_state : State
  back_state = after_event (session_of acts) told called_state (event.Back h)

  never : is_act is_stop (session_of acts) h ≡ false
  never = is_act-in is_stop acts h ∙ never_stops (known acts items h)

  abbrev half : ContextState
  half = with_call called_state.context h (returned called_state.context.events (at called_state.context.acts h).call)

  abbrev after_progress : Place → ContextState
  after_progress q = with_progress q step.Back half

  -- a return that stops nothing
  back_as : {A : Type 0} (f : ContextState → A) → f
      (cond (is_act is_stop (session_of acts) h)
      (limited (session_of acts) h (nth_place acts h) (after_progress (nth_place acts h)))
      (after_progress (nth_place acts h))) ≡ f (after_progress None)
  back_as f =
      ap (λ b. f (cond b (limited (session_of acts) h (nth_place acts h) (after_progress (nth_place acts h)))
      (after_progress (nth_place acts h)))) never
      ∙ ap (λ (q : Place). f (after_progress q)) place_none

  below_called : h < length called_state.context.acts
  below_called = let same = call_changes.size in let less = below in omega (arith, same, less)

  pub back_changes : Changes called_state.context.acts back_state.context.acts h back_to
  back_changes =
      let to : ActState =
      record (at called_state.context.acts h)
      { call = returned called_state.context.events (at called_state.context.acts h).call } in
      let to_is : to ≡ back_to =
      ap (λ (x : ActState). let y : ActState = record x { call = returned called_state.context.events x.call } in y)
      call_changes.here in
      let same : back_state.context.acts ≡ slice_set called_state.context.acts h to =
      back_as (λ (c : ContextState). c.acts) in
      subst (λ (x : ActState). Changes called_state.context.acts back_state.context.acts h x) to_is
      (subst (λ (states : List ActState). Changes called_state.context.acts states h to) (sym same)
      (changed called_state.context.acts h to below_called))

  after_here : at back_state.context.acts h ≡ back_to
  after_here = back_changes.here

  after_others : (n : ℕ) → n ≢ h → at back_state.context.acts n ≡ at s.context.acts n
  after_others n differ = back_changes.others n differ ∙ call_changes.others n differ

  pub back_made_is : back_state.context.opening.made ≡ s.context.opening.made + 1
  back_made_is = back_as (λ (c : ContextState). c.opening.made) ∙ called_made

  back_back_is : back_state.context.opening.back ≡ s.context.opening.made + 1
  back_back_is =
      back_as (λ (c : ContextState). c.opening.back) ∙ ap one_more (called_back ∙ was.back)
      ∙ small_more s.context.opening.made (let small = few_made in omega (arith, small))

  back_events : back_state.context.events ≡ s.context.events + 1 + 1
  back_events =
      back_as (λ (c : ContextState). one_more c.events) ∙ ap one_more called_events
      ∙ small_more (s.context.events + 1) (let small = few_made in let events = was.events in omega (arith, small, events))

  before_later : (place more : ℕ) (c : CallPhase) → place ≤ more → is_back_before place c ≡ true →
      is_back_before more c ≡ true
  before_later place more (call.Back called back) less is =
      let before = ltb-true back place is in lt-ltb back more (omega (arith, before, less))
  before_later place more c less is = absurd (cc is)

  -- an act of `open` before the next one was called before
  called_before : (n : ℕ) → is_opened acts n ≡ true → n < h → n < from
  called_before n is less = elim (cases_lt n from) [
    | inl before ↦ before
    | inr after ↦ absurd (let wrong : true ≡ false = sym is ∙ was.listed.1 n after less in cc)
  ]

  call_after : (n : ℕ) → n ≢ h → (at back_state.context.acts n).call ≡ (at s.context.acts n).call
  call_after n differ = ap (λ (act : ActState). act.call) (after_others n differ)

  back_here : IsBackAt acts back_state.context.acts back_state.context.events h
  back_here =
      let one = called_events in
      let two = back_events in
      record {
        back = ap (λ (act : ActState). is_back act.call) after_here;
        before =
            ap (λ (act : ActState). is_back_before back_state.context.events act.call) after_here
            ∙ lt-ltb called_state.context.events back_state.context.events (omega (arith, one, two));
        phase = ap (λ (act : ActState). act.phase) after_here;
      }

  back_there : (n : ℕ) → n ≢ h → IsBackAt acts s.context.acts s.context.events n →
      IsBackAt acts back_state.context.acts back_state.context.events n
  back_there n differ called =
      let two = back_events in
      record {
        back = ap is_back (call_after n differ) ∙ called.back;
        before =
            ap (is_back_before back_state.context.events) (call_after n differ)
            ∙ before_later s.context.events back_state.context.events (at s.context.acts n).call (omega (arith, two))
            called.before;
        phase = ap (λ (act : ActState). act.phase) (after_others n differ) ∙ called.phase;
      }

  called_after : (n : ℕ) → is_opened acts n ≡ true → n < suc h →
      IsBackAt acts back_state.context.acts back_state.context.events n
  called_after n is less = elim (cases_eq n h) [
    | inl same ↦ subst (λ m. IsBackAt acts back_state.context.acts back_state.context.events m) (sym same) back_here
    | inr differ ↦ back_there n differ (was.called n is (called_before n is (omega (arith, less, differ))))
  ]

  rest_after : (n : ℕ) → (is_opened acts n ≡ false) ⊎ (suc h ≤ n) → at back_state.context.acts n ≡ fresh
  rest_after n (inl outside) =
      let differ : n ≢ h = λ same.
      absurd (let wrong : false ≡ true = sym outside ∙ (ap (is_opened acts) same ∙ was.listed.2) in cc) in
      after_others n differ ∙ was.rest n (inl outside)
  rest_after n (inr after) =
      let least = was.listed.0 in
      after_others n (λ same. absurd (omega (arith, same, after))) ∙ was.rest n (inr (omega (arith, least, after)))

  order_after : (i j : ℕ) → is_opened acts i ≡ true → is_opened acts j ≡ true → i < j → j < suc h →
      is_back_before (called_at (at back_state.context.acts j).call) (at back_state.context.acts i).call ≡ true
  order_after i j one two less below_j =
      let other : i ≢ h = λ same. absurd (omega (arith, same, less, below_j)) in
      elim (cases_eq j h) [
        | inl same ↦
            let before = was.called i one (called_before i one (omega (arith, less, same))) in
            subst (λ m. is_back_before (called_at (at back_state.context.acts m).call) (at back_state.context.acts i).call ≡ true)
            (sym same)
            (ap (λ (act : ActState). is_back_before (called_at act.call) (at back_state.context.acts i).call) after_here
            ∙ ap (is_back_before s.context.events) (call_after i other) ∙ before.before)
        | inr differ ↦
            ap (λ (c : CallPhase). is_back_before (called_at c) (at back_state.context.acts i).call) (call_after j differ)
            ∙ ap (is_back_before (called_at (at s.context.acts j).call)) (call_after i other)
            ∙ was.order i j one two less (called_before j two (omega (arith, below_j, differ)))
      ]

  pub opening_after : Opening acts told back_state (suc h) rest
  opening_after =
      let made_is = back_made_is in
      let back_is = back_back_is in
      let events_are = back_events in
      let made = was.made in
      let events = was.events in
      record {
        size = back_changes.size ∙ call_changes.size ∙ was.size;
        listed = was.listed.3;
        made = omega (arith, made_is, made);
        back = back_is ∙ sym made_is;
        next = λ k.
            let same : back_state.context.opening.made + k ≡ s.context.opening.made + suc k = omega (arith, made_is) in
            ap (slice_get (opening_of (session_of acts))) same ∙ was.next (suc k);
        stopped = back_as (λ (c : ContextState). c.stopped) ∙ called_stopped ∙ was.stopped;
        closings = back_as (λ (c : ContextState). c.closings) ∙ called_closings ∙ was.closings;
        events = omega (arith, made_is, events_are, events);
        called = called_after;
        rest = rest_after;
        order = order_after;
        reactor = was.reactor;
      }

  new_here : at s.context.acts h ≡ fresh
  new_here = was.rest h (inr was.listed.0)

  pub call_tells : (left : List ℕ) →
      Tells acts s.context.acts called_state.context.acts s.reactor called_state.reactor left left (event.Call h)
  call_tells left = record {
    calls =
        let one =
        called-changed s.context.acts called_state.context.acts h called_to (length acts) call_changes
        (opened_within acts h was.listed.2) in
        let new = ap (λ (act : ActState). one_if (is_called act.call)) new_here in
        omega (arith, one, new);
    ends = λ weight.
        let one =
        ended-changed weight s.context.acts called_state.context.acts h called_to (length acts) call_changes
        (opened_within acts h was.listed.2) in
        let new = ap (λ (act : ActState). cond (has_ended act.phase) (weight h) 0) new_here in
        let runs = ap (λ b. cond b (weight h) 0) (accepted_runs acts h) in
        omega (arith, one, new, runs);
    drops = refl;
    aborts = omega arith;
    lasts = refl;
    time = refl;
  }

  pub back_tells : (left : List ℕ) →
      Tells acts called_state.context.acts back_state.context.acts called_state.reactor back_state.reactor left left
      (event.Back h)
  back_tells left = record {
    calls =
        let one =
        called-changed called_state.context.acts back_state.context.acts h back_to (length acts) back_changes
        (opened_within acts h was.listed.2) in
        let old = ap (λ (act : ActState). one_if (is_called act.call)) call_changes.here in
        omega (arith, one, old);
    ends = λ weight.
        let one =
        ended-changed weight called_state.context.acts back_state.context.acts h back_to (length acts) back_changes
        (opened_within acts h was.listed.2) in
        let old = ap (λ (act : ActState). cond (has_ended act.phase) (weight h) 0) call_changes.here in
        omega (arith, one, old);
    drops = refl;
    aborts = omega arith;
    lasts = refl;
    time = refl;
  }
