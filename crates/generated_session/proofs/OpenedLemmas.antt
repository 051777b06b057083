-- A session that a number makes once the last call of `open` is back, and all of it from the first event on.
use Rattle.std.proofs.Common.{◌≡◌, ◌≢◌, ℕ, ◌+◌, ◌≤◌, nat_lt, inl, inr, zero, suc, Bool, true, false, ◌&&◌, List, [], ◌∷◌, length, get_or, replicate, Option, Some, None, refl, ap, sym, ◌∙◌, subst, arith}
use Rattle.std.specs.List.{list_any, slice_get}
use Rattle.std.proofs.lemmas.Bool.{cases_Bool, cases_lt, le-ltb}
use Rattle.std.proofs.lemmas.List.{length-replicate}
use Rattle.asio_types.specs.declared.code.Class.{Class}
use Rattle.asio_types.specs.declared.event.Event.{Event}
use Rattle.asio_types.specs.declared.event.Event.TheVariants as event
use Rattle.session_script.specs.Script.{Entry, is_operation, opening_of}
use Rattle.history_rules.specs.FromOutside.{is_fault, is_outside_stop}
use Rattle.history_rules.specs.Calls.{accepted}
use Rattle.history_rules.specs.Kinds.{is_control, is_posting}
use Rattle.history_rules.specs.Legal.{IsLegalFrom, IsWhole, MayHappen, after_event, state_from}
use Rattle.history_rules.specs.Order.{is_request, was_taken}
use Rattle.history_rules.specs.State.{ReactorHalf, State, first_reactor, first_state, fresh}
use Rattle.history_rules.specs.declared.phase.ActState.{ActState}
use Rattle.generated_session.specs.Generator.{session_of}
use Rattle.generated_session.proofs.ClosedLemmas.{or_parts}
use Rattle.generated_session.proofs.FitLemmas.{accepted_by, back_called, fits, fits_fresh, has_made, is_called, is_requested, opened_accepted, opened_is, test_in}
use Rattle.generated_session.proofs.GatherLemmas.{one_if}
use Rattle.generated_session.proofs.GoingLemmas.{Going}
use Rattle.generated_session.proofs.ItemsLemmas.{act_of-in, AreItems, asks_entry, asks_in, known, nth_act, nth_place, under}
use Rattle.generated_session.proofs.ListedLemmas.{IsListed, all_listed, numbered, opening_numbered, opens, passes}
use Rattle.generated_session.proofs.OpeningLemmas.{IsBackAt, Opening}
use Rattle.generated_session.proofs.OpeningStepsLemmas.{back_state, back_tells, call_tells, called_closings, called_state, half_event, idle_event, opening_after}
use Rattle.generated_session.proofs.PlainLemmas.{IsPlain, plain_before, plain_from}
use Rattle.generated_session.proofs.StatesLemmas.{ActsFit, asks_opened, at, is_opened, opened_place, outermost_opened}
use Rattle.generated_session.proofs.TurnsLemmas.{AreAhead, Turns, is_asking}

listed-same : (f g : ℕ → Bool) (from : ℕ) (xs : List ℕ) → ((n : ℕ) → g n ≡ f n) → IsListed f from xs →
    IsListed g from xs
listed-same f g from [] same listed = λ n least. same n ∙ listed n least
listed-same f g from (x ∷ xs) same listed = (
  listed.0,
  λ n least below. same n ∙ listed.1 n least below,
  same x ∙ listed.2,
  listed-same f g (suc x) xs same listed.3,
)

asks_by : (acts : List Entry) (n : ℕ) (e : Option Entry) → slice_get acts n ≡ e → is_asking acts n ≡ passes asks_entry e
asks_by acts n None there = ap asks_in (act_of-in acts n None there)
asks_by acts n (Some e) there = ap asks_in (act_of-in acts n (Some e) there)

asking_listed : (acts : List Entry) → IsListed (is_asking acts) 0 (numbered asks_entry 0 acts)
asking_listed acts =
    listed-same (λ n. passes asks_entry (slice_get acts n)) (is_asking acts) 0 (numbered asks_entry 0 acts)
    (λ n. asks_by acts n (slice_get acts n) refl) (all_listed asks_entry acts)

pub get_or-replicate : {X : Type 0} (x : X) (count n : ℕ) → get_or (replicate count x) n x ≡ x
get_or-replicate x zero n = refl
get_or-replicate x (suc count) zero = refl
get_or-replicate x (suc count) (suc n) = get_or-replicate x count n

none_made_by : (posting operation control : Bool) → has_made (accepted_by false posting operation control) ≡ false
none_made_by true operation control = refl
none_made_by false true control = refl
none_made_by false false true = refl
none_made_by false false false = refl

no_and : (b c : Bool) → c ≡ false → (b && c) ≡ false
no_and true c none = none
no_and false c none = refl

module _ (acts : List Entry) (items : AreItems 0 acts) (told : Bool) (s : State) (from : ℕ)
    (was : Opening acts told s from []) where
  called_now : (n : ℕ) → is_opened acts n ≡ true → IsBackAt acts s.context.acts s.context.events n
  called_now n is = elim (cases_lt n from) [
    | inl before ↦ was.called n is before
    | inr after ↦ absurd (let wrong : true ≡ false = sym is ∙ was.listed n after in cc)
  ]

  act_there : (n : ℕ) → is_opened acts n ≡ true → nth_act acts n ≢ None
  act_there n is = by_entry (slice_get acts n) refl is
    where
      by_entry : (e : Option Entry) → slice_get acts n ≡ e → passes opens e ≡ true → nth_act acts n ≢ None
      by_entry None there is none = absurd (cc is)
      by_entry (Some e) there is none =
          absurd (let wrong : Some e.act ≡ None = sym (act_of-in acts n (Some e) there) ∙ none in cc)

  accepted_so : (n : ℕ) → is_opened acts n ≡ true → (fits (nth_act acts n) true (accepted (session_of acts) n) ≡ true) ×
      (is_request (accepted (session_of acts) n) ≡ asks_in (nth_act acts n))
  accepted_so n is = opened_accepted acts n (known acts items n) (opened_place acts n is) (act_there n is)

  fit_so : (n : ℕ) → fits (nth_act acts n) (is_called (at s.context.acts n).call) (at s.context.acts n).phase ≡ true
  fit_so n = elim (cases_Bool (is_opened acts n)) [
    | inl is ↦
        let called = called_now n is in
        ap (λ b. fits (nth_act acts n) b (at s.context.acts n).phase) (back_called (at s.context.acts n).call called.back)
        ∙ ap (fits (nth_act acts n) true) called.phase ∙ (accepted_so n is).0
    | inr outside ↦
        ap (λ (act : ActState). fits (nth_act acts n) (is_called act.call) act.phase) (was.rest n (inl outside))
        ∙ fits_fresh (known acts items n)
  ]

  nested_so : (n p : ℕ) (c : Class) → nth_place acts n ≡ Some (p, c) →
      is_called (at s.context.acts n).call ≡ has_made (at s.context.acts p).phase
  nested_so n p c parent =
      let inside = under acts items n p c parent in
      let outer : is_opened acts p ≡ true =
      outermost_opened acts p (let next = inside.next in let less = inside.within in omega (arith, next, less))
      inside.outermost in
      let not_opened : is_opened acts n ≡ false = elim (cases_Bool (is_opened acts n)) [
        | inr outside ↦ outside
        | inl is ↦ absurd (let wrong : None ≡ Some (p, c) = sym (opened_place acts n is) ∙ parent in cc)
      ] in
      let act = nth_act acts p in
      ap (λ (x : ActState). is_called x.call) (was.rest n (inl not_opened))
      ∙ sym (ap has_made (called_now p outer).phase ∙ ap has_made (opened_is acts p inside.outermost) ∙ none_made_by
      (test_in is_posting act) (test_in is_operation act) (test_in is_control act))

  fit_now : ActsFit acts s.context.acts
  fit_now = record {
    size = was.size;
    fit = fit_so;
    opened = λ n is. (called_now n is).back;
    order = λ i j one two less. was.order i j one two less (elim (cases_lt j from) [
      | inl before ↦ before
      | inr after ↦ absurd (let wrong : true ≡ false = sym two ∙ was.listed j after in cc)
    ]);
    nested = nested_so;
  }

  untaken : (n : ℕ) → was_taken (first_reactor (session_of acts) told) n ≡ false
  untaken n = get_or-replicate false (length acts) n

  first_turns : Turns acts s.context.acts (first_reactor (session_of acts) told) 0 (numbered asks_entry 0 acts)
  first_turns = record {
    working = refl;
    queues = refl;
    guards = refl;
    timers = refl;
    size = length-replicate (length acts) false;
    listed = asking_listed acts;
    taken = λ n. untaken n ∙ sym (no_and (is_asking acts n) (nat_lt n 0) (le-ltb n 0 (omega arith)));
    waiting = λ n asks least.
        let is = asks_opened acts items n asks in
        ap is_request (called_now n is).phase ∙ (accepted_so n is).1 ∙ asks;
    pending =
        λ n.
        sym (ap one_if (no_and (is_requested (at s.context.acts n).phase)
        (was_taken (first_reactor (session_of acts) told) n) (untaken n)));
    early = inl refl;
  }

  pub going_now : Going acts s
  going_now = record {
    fit = fit_now;
    made = let made = was.made in omega (arith, made);
    stopped = was.stopped;
    closings = was.closings;
    from = 0;
    left = numbered asks_entry 0 acts;
    turns =
        subst (λ (r : ReactorHalf). Turns acts s.context.acts r 0 (numbered asks_entry 0 acts)) (sym was.reactor) first_turns;
    ahead = subst (λ (r : ReactorHalf). AreAhead r) (sym was.reactor) (λ k d within. absurd (omega (arith, within)));
  }

abbrev Tells_all : List Entry → Bool → List ℕ → Type 0
Tells_all acts told left =
    (from : ℕ) (s : State) (events : List Event) → Opening acts told s from left →
    IsLegalFrom (session_of acts) told s events →
    IsWhole (session_of acts) (state_from (session_of acts) told s events) → list_any is_fault events ≡ false →
    list_any is_outside_stop events ≡ false →
    IsPlain acts s.context.acts s.reactor (numbered asks_entry 0 acts) events

not_whole : (acts : List Entry) (s : State) → IsWhole (session_of acts) s → s.context.closings ≡ 0 →
    s.reactor.failed ≡ false → ⊥
not_whole acts s whole closings works = elim whole.over [
  | inl closed ↦ absurd (omega (arith, closed, closings))
  | inr failed ↦ (let wrong : false ≡ true = sym works ∙ failed in cc)
]

module _ (acts : List Entry) (items : AreItems 0 acts) (told : Bool) (few : length acts ≤ 1024) (h : ℕ) (rest : List ℕ)
    (later : Tells_all acts told rest) (from : ℕ) (s : State) (was : Opening acts told s from (h ∷ rest)) where
  abbrev half : State
  half = called_state acts items told few s from h rest was

  abbrev whole_call : State
  whole_call = back_state acts items told few s from h rest was

  works : s.reactor.failed ≡ false
  works = ap (λ (r : ReactorHalf). r.failed) was.reactor

  after_return : (events : List Event) → MayHappen (session_of acts) told half (event.Back h) →
      IsLegalFrom (session_of acts) told whole_call events →
      IsWhole (session_of acts) (state_from (session_of acts) told whole_call events) →
      list_any is_fault events ≡ false →
      list_any is_outside_stop events ≡ false →
      IsPlain acts half.context.acts half.reactor (numbered asks_entry 0 acts) (event.Back h ∷ events)
  after_return events may legal whole fine goes =
      plain_before acts half.context.acts whole_call.context.acts half.reactor whole_call.reactor (numbered asks_entry 0 acts)
      (numbered asks_entry 0 acts) (event.Back h) events
      (back_tells acts items told few s from h rest was (numbered asks_entry 0 acts))
      (later (suc h) whole_call events (opening_after acts items told few s from h rest was) legal whole fine goes)

  from_half : (events : List Event) → IsLegalFrom (session_of acts) told half events →
      IsWhole (session_of acts) (state_from (session_of acts) told half events) → list_any is_fault events ≡ false →
      list_any is_outside_stop events ≡ false →
      IsPlain acts half.context.acts half.reactor (numbered asks_entry 0 acts) events
  from_half [] legal whole fine goes =
      absurd (not_whole acts half whole (called_closings acts items told few s from h rest was ∙ was.closings) works)
  from_half (e ∷ events) legal whole fine goes =
      let no_fault = or_parts (is_fault e) (list_any is_fault events) fine in
      let no_stop = or_parts (is_outside_stop e) (list_any is_outside_stop events) goes in
      let is : e ≡ event.Back h = half_event acts items told few s from h rest was e legal.0 no_fault.0 no_stop.0 in
      subst (λ (x : Event). MayHappen (session_of acts) told half x → IsLegalFrom (session_of acts) told
      (after_event (session_of acts) told half x) events →
      IsWhole (session_of acts) (state_from (session_of acts) told (after_event (session_of acts) told half x) events) →
      IsPlain acts half.context.acts half.reactor (numbered asks_entry 0 acts) (x ∷ events)) (sym is)
      (λ may next over. after_return events may next over no_fault.1 no_stop.1) legal.0 legal.1 whole

  after_call : (events : List Event) → IsLegalFrom (session_of acts) told half events →
      IsWhole (session_of acts) (state_from (session_of acts) told half events) → list_any is_fault events ≡ false →
      list_any is_outside_stop events ≡ false →
      IsPlain acts s.context.acts s.reactor (numbered asks_entry 0 acts) (event.Call h ∷ events)
  after_call events legal whole fine goes =
      plain_before acts s.context.acts half.context.acts s.reactor half.reactor (numbered asks_entry 0 acts)
      (numbered asks_entry 0 acts)
      (event.Call h) events
      (call_tells acts items told few s from h rest was (numbered asks_entry 0 acts)) (from_half events legal whole fine goes)

  from_idle : (events : List Event) → IsLegalFrom (session_of acts) told s events →
      IsWhole (session_of acts) (state_from (session_of acts) told s events) → list_any is_fault events ≡ false →
      list_any is_outside_stop events ≡ false →
      IsPlain acts s.context.acts s.reactor (numbered asks_entry 0 acts) events
  from_idle [] legal whole fine goes = absurd (not_whole acts s whole was.closings works)
  from_idle (e ∷ events) legal whole fine goes =
      let no_fault = or_parts (is_fault e) (list_any is_fault events) fine in
      let no_stop = or_parts (is_outside_stop e) (list_any is_outside_stop events) goes in
      let is : e ≡ event.Call h = idle_event acts items told few s from h rest was e legal.0 no_fault.0 no_stop.0 in
      subst (λ (x : Event). IsLegalFrom (session_of acts) told (after_event (session_of acts) told s x) events → IsWhole
      (session_of acts) (state_from (session_of acts) told (after_event (session_of acts) told s x) events) →
      IsPlain acts s.context.acts s.reactor (numbered asks_entry 0 acts) (x ∷ events)) (sym is)
      (λ next over. after_call events next over no_fault.1 no_stop.1) legal.1 whole

opened_tells : (acts : List Entry) → AreItems 0 acts → (told : Bool) → Tells_all acts told []
unfolding going_now
opened_tells acts items told from s events was legal whole fine goes =
    plain_from acts items told events s (going_now acts items told s from was) legal whole fine goes

pub tells_all : (acts : List Entry) → AreItems 0 acts → (told : Bool) → length acts ≤ 1024 → (left : List ℕ) →
    Tells_all acts told left
tells_all acts items told few [] from s events was legal whole fine goes =
    opened_tells acts items told from s events was legal whole fine goes
tells_all acts items told few (h ∷ rest) from s events was legal whole fine goes =
    from_idle acts items told few h rest (tells_all acts items told few rest) from s was events legal whole fine goes

-- before the first event no act was called
pub first_opening : (acts : List Entry) (told : Bool) → Opening acts told (first_state (session_of acts) told) 0
    (opening_of (session_of acts))
first_opening acts told =
    let new : (n : ℕ) → at (replicate (length acts) fresh) n ≡ fresh = λ n. get_or-replicate fresh (length acts) n in
    record {
      size = length-replicate (length acts) fresh;
      listed =
          subst (λ (xs : List ℕ). IsListed (is_opened acts) 0 xs) (sym (opening_numbered 0 acts)) (all_listed opens acts);
      made = omega arith;
      back = refl;
      next = λ k. let same : 0 + k ≡ k = omega arith in ap (slice_get (opening_of (session_of acts))) same;
      stopped = refl;
      closings = refl;
      events = refl;
      called = λ n is below. absurd (omega (arith, below));
      rest = λ n outside. new n;
      order = λ i j one two less below. absurd (omega (arith, below));
      reactor = refl;
    }
