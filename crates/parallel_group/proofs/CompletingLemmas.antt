-- An operation of `open` completes, unless the reactor fails or somebody stops the context.
use Rattle.std.proofs.Common.{◌≡◌, ◌⊎◌, ℕ, zero, suc, ◌+◌, ◌<◌, ◌≤◌, Bool, true, false, cond, ◌||◌, List, [], ◌∷◌, Some, None, inl, inr, length, get_or, replicate, refl, sym, ap, subst, ◌∙◌, arith}
use Rattle.std.specs.Prelude.{Contains, IsSomeAnd, count_by, slice_get}
use Rattle.std.specs.List.{range_with_len}
use Rattle.std.proofs.lemmas.Bool.{and_parts, cases_eq, cases_lt}
use Rattle.std.proofs.lemmas.List.{length-replicate}
use Rattle.std.proofs.lemmas.List.FromFn.{get_or-range_with_len, length-range_with_len}
use Rattle.std.proofs.lemmas.List.Sums.{get_or-le-sum_by}
use Rattle.std.proofs.lemmas.Option.{slice_get_within}
use Rattle.asio_types.specs.Faults.{most_faults, one_more}
use Rattle.asio_types.specs.declared.event.Event.{Event}
use Rattle.asio_types.specs.declared.event.Event.TheVariants as event
use Rattle.session_script.specs.Lanes.{is_inline}
use Rattle.session_script.specs.Script.{Place, ScriptModel, is_stop, opening_of, parent_of}
use Rattle.session_script.specs.WellFormed.{IsWellFormed}
use Rattle.session_script.specs.declared.round.Pace.TheVariants as pace
use Rattle.session_script.specs.declared.round.Round.{Round}
use Rattle.history_rules.specs.declared.phase.ActPhase.{ActPhase}
use Rattle.history_rules.specs.declared.phase.ActPhase.TheVariants as phase
use Rattle.history_rules.specs.declared.phase.ActState.{ActState}
use Rattle.history_rules.specs.declared.phase.CallPhase.{CallPhase}
use Rattle.history_rules.specs.declared.phase.CallPhase.TheVariants as call
use Rattle.history_rules.specs.declared.phase.Progress.{Progress}
use Rattle.history_rules.specs.declared.phase.Step.TheVariants as step
use Rattle.history_rules.specs.Calls.{IsNextOf, accepted, body_at, is_call_done, is_made, is_open, limited, returned, with_progress}
use Rattle.history_rules.specs.FromOutside.{is_fault}
use Rattle.history_rules.specs.Kinds.{is_act}
use Rattle.history_rules.specs.Legal.{IsLegal, IsLegalFrom, IsWhole, MayHappen, after_event, context_after, state_from}
use Rattle.history_rules.specs.Order.{was_taken}
use Rattle.history_rules.specs.Rounds.{AllClosed, IsOver, is_act_outstanding, is_outstanding, restarts, runs, this_round}
use Rattle.history_rules.specs.State.{ContextState, State, act_at, call_at, first_state, fresh, phase_at, with_call}
use Rattle.execution_laws.proofs.CountLemmas.{one_more-is}
use Rattle.execution_laws.proofs.PlaceLemmas.{few_acts}
use Rattle.execution_laws.proofs.ScriptLemmas.{few_in}
use Rattle.execution_laws.proofs.StateLemmas.{IsHandlers}
use Rattle.reactor_turns.proofs.SummingLemmas.{one_if}
use Rattle.group_script.proofs.AskedLemmas.{IsAsked, asked_further, not_begun, not_ended}
use Rattle.group_script.proofs.PhaseLemmas.{begin-phase, call-phase, return-phase, set-phase}
use Rattle.history_merge.proofs.AlikeLemmas.{never}
use Rattle.history_merge.proofs.EndLemmas.{fails_after}
use Rattle.history_merge.proofs.FrameLemmas.{RoundPart, called_act, length-after, opening-after, part-after, round_after, round_part}
use Rattle.history_merge.proofs.NextCallLemmas.{in_opening}
use Rattle.history_merge.proofs.OpensLemmas.{opens_kept}
use Rattle.history_merge.proofs.SoLemmas.{OpensInTurn}
use Rattle.parallel_group.specs.Members.{Completes}

-- the event completes this operation
abbrev IsDoneOf : ℕ → Event → Type 0
IsDoneOf o (event.Done p given size) = p ≡ o
IsDoneOf o _ = ⊥

-- no failure, and no stop from outside
abbrev pub IsOrdinary : Event → Type 0
IsOrdinary event.Fault = ⊥
IsOrdinary (event.Stop None) = ⊥
IsOrdinary _ = Unit {0}

-- each event is ordinary
abbrev pub AreOrdinary : List Event → Type 0
AreOrdinary [] = Unit {0}
AreOrdinary (e ∷ events) = IsOrdinary e × AreOrdinary events

pub ordinary : (events : List Event) → (Contains events event.Fault → ⊥) → (Contains events (event.Stop None) → ⊥) →
    AreOrdinary events
ordinary [] working going = tt
ordinary (e ∷ events) working going = (
  ordinary_one e (λ is. working (0, omega arith, is)) (λ is. going (0, omega arith, is)),
  ordinary events (λ found. working (suc found.0, omega (arith, found.1), found.2))
      (λ found. going (suc found.0, omega (arith, found.1), found.2)),
)
  where
    ordinary_one : (e : Event) → (e ≡ event.Fault → ⊥) → (e ≡ event.Stop None → ⊥) → IsOrdinary e
    ordinary_one event.Fault isnt going = isnt refl
    ordinary_one (event.Stop None) isnt going = going refl
    ordinary_one (event.Stop (Some a)) isnt going = tt
    ordinary_one e isnt going = tt

-- a number below the end that passes a test is counted
counts : (test : ℕ → Bool) (n o : ℕ) → o < n → test o ≡ true → 1 ≤ count_by test (range_with_len 0 n)
counts test n o within passes =
    let at : get_or (range_with_len 0 n) o 0 ≡ 0 + o = get_or-range_with_len 0 n o 0 within in
    let same : 0 + o ≡ o = omega arith in
    let here : one_if (test (get_or (range_with_len 0 n) o 0)) ≡ 1 = ap (λ k. one_if (test k)) (at ∙ same) ∙ ap one_if passes in
    let some = get_or-le-sum_by (λ k. cond (test k) 1 0) (range_with_len 0 n) o 0
    (omega (arith, within, length-range_with_len 0 n)) in
    omega (arith, some, here)

abbrev one_round : ℕ → Round
one_round workers = record { restart = false; pace = pace.Run; workers = workers }

module _ (script : ScriptModel) (well : IsWellFormed script) (o j workers : ℕ) (there : o < length script.acts)
    (listed : slice_get (opening_of script) j ≡ Some o) (asked : accepted script o ≡ phase.Requested)
    (no_stop : (n : ℕ) → is_act is_stop script n ≡ false)
    (rounds : script.rounds ≡ record { restart = false; pace = pace.Run; workers = workers } ∷ []) where
  -- the calls of `open` that are made and back
  record IsOpening (s : ContextState) : Type 0 where
    order : s.opening.back ≤ s.opening.made
    waits : j < s.opening.made → phase_at s o ≡ phase.Requested

  -- the round isn't closed, and once it is called the operation waits to complete
  record IsUnderWay (s : State) : Type 0 where
    size : length s.context.acts ≡ length script.acts
    works : s.reactor.failed ≡ false
    going : s.context.stopped ≡ false
    closings : s.context.closings ≡ 0
    opens : OpensInTurn script s.context
    opening : IsOpening s.context

  few_opening : length (opening_of script) < most_faults
  few_opening = let few = few_acts script well in let less = few_in None 0 script.acts in omega (arith, few, less)

  -- events that call nothing of `open` leave an opening as it is, if they leave the operation
  same_opening : (s t : ContextState) → t.opening ≡ s.opening →
      (phase_at s o ≡ phase.Requested → phase_at t o ≡ phase.Requested) → IsOpening s → IsOpening t
  same_opening s t same kept is = record {
    order = subst (λ p. p.back ≤ p.made) (sym same) is.order;
    waits = λ made. kept (is.waits (subst (λ p. j < p.made) same made));
  }

  module _ (told : Bool) (s : State) (way : IsUnderWay s) where
    called_now : (a : ℕ) → a ≡ o → phase_at (context_after script s.context (event.Call a)) o ≡ phase.Requested
    called_now a same =
        let within : a < length s.context.acts = omega (arith, same, there, way.size) in
        ap (λ n. phase_at (context_after script s.context (event.Call a)) n) (sym same)
        ∙ ap (λ (act : ActState). act.phase) (called_act script s.context a within)
        ∙ (ap (accepted script) same ∙ asked)

    kept_call : (a : ℕ) → phase_at s.context o ≡ phase.Requested →
        phase_at (context_after script s.context (event.Call a)) o ≡ phase.Requested
    kept_call a is = call-phase script o IsAsked asked_further asked s.context a is

    call_opening : (a : ℕ) (place : Place) → parent_of script a ≡ place →
        IsSomeAnd (body_at script s.reactor.failed s.context place) (IsNextOf a) →
        IsOpening (context_after script s.context (event.Call a))
    call_opening a None under may =
        let next = in_opening script a s.reactor.failed s.context may in
        let within = slice_get_within (opening_of script) s.context.opening.made a next.next in
        let opening : (context_after script s.context (event.Call a)).opening
        ≡ record s.context.opening { made = one_more s.context.opening.made } =
        ap (λ place. (with_progress place step.Made s.context).opening) under in
        let made : (context_after script s.context (event.Call a)).opening.made ≡ s.context.opening.made + 1 =
        ap (λ p. p.made) opening ∙ one_more-is s.context.opening.made (omega (arith, within, few_opening)) in
        let back : (context_after script s.context (event.Call a)).opening.back ≡ s.context.opening.back =
        ap (λ p. p.back) opening in
        record {
          order = omega (arith, way.opening.order, made, back);
          waits = λ before. elim (cases_lt j s.context.opening.made) [
            | inl earlier ↦ kept_call a (way.opening.waits earlier)
            | inr here ↦
                let same : j ≡ s.context.opening.made = omega (arith, here, before, made) in
                called_now a (same_act a o (sym next.next ∙ (ap (slice_get (opening_of script)) (sym same) ∙ listed)))
          ];
        }
      where
        same_act : (m n : ℕ) → Some m ≡ Some n → m ≡ n
        same_act m n is = cc
    call_opening a (Some at) under may =
        same_opening s.context (context_after script s.context (event.Call a))
        (opening-after script s.context (event.Call a) (subst IsHandlers (sym under) tt))
        (kept_call a) way.opening

    back_open : (a : ℕ) → is_call_done (is_act is_stop script a) (is_inline script a) (act_at s.context a) ≡ true →
        is_open (call_at s.context a) ≡ true
    back_open a done =
        made_open (call_at s.context a)
        (and_parts _ _ (sym (ap (λ b. is_call_done b (is_inline script a) (act_at s.context a)) (no_stop a)) ∙ done)).0
      where
        made_open : (of : CallPhase) → is_made of ≡ true → is_open of ≡ true
        made_open (call.Open called) is = refl
        made_open other is = absurd (cc)

    kept_back : (a : ℕ) → phase_at s.context o ≡ phase.Requested →
        phase_at (context_after script s.context (event.Back a)) o ≡ phase.Requested
    kept_back a is = return-phase script o IsAsked asked_further s.context a is

    back_opening : (a : ℕ) (place : Place) → parent_of script a ≡ place →
        is_call_done (is_act is_stop script a) (is_inline script a) (act_at s.context a) ≡ true →
        IsOpening (context_after script s.context (event.Back a))
    back_opening a None under may =
        let own = way.opens a under (back_open a may) in
        let within = slice_get_within (opening_of script) s.context.opening.back a own.at in
        let opening : (context_after script s.context (event.Back a)).opening
        ≡ record s.context.opening { back = one_more s.context.opening.back } =
        ap (λ stops. (limited_by stops)) (no_stop a)
        ∙ ap (λ place. (with_progress place step.Back back).opening) under in
        let made : (context_after script s.context (event.Back a)).opening.made ≡ s.context.opening.made =
        ap (λ p. p.made) opening in
        let back : (context_after script s.context (event.Back a)).opening.back ≡ s.context.opening.back + 1 =
        ap (λ p. p.back) opening ∙ one_more-is s.context.opening.back (omega (arith, within, few_opening)) in
        record {
          order = omega (arith, own.made, made, back);
          waits = λ before. kept_back a (way.opening.waits (omega (arith, before, made)));
        }
      where
        back : ContextState
        back = with_call s.context a (returned s.context.events (call_at s.context a))

        limited_by : Bool → Progress
        limited_by stops =
            (cond stops (limited script a (parent_of script a) (with_progress (parent_of script a) step.Back back))
            (with_progress (parent_of script a) step.Back back)).opening
    back_opening a (Some at) under may =
        same_opening s.context (context_after script s.context (event.Back a))
        (opening-after script s.context (event.Back a) (subst IsHandlers (sym under) tt)) (kept_back a) way.opening

    -- what an ordinary event leaves, if it closes nothing and ends nothing
    goes_on : (e : Event) → MayHappen script told s e → is_fault e ≡ false → (context_after script s.context e).stopped ≡ false →
        (context_after script s.context e).closings ≡ 0 → IsOpening (context_after script s.context e) →
        IsUnderWay (after_event script told s e)
    goes_on e may isnt going closings opening = record {
      size = length-after script s.context e ∙ way.size;
      works = fails_after script told s.reactor e
          ∙ (ap (λ b. b || s.reactor.failed) isnt ∙ way.works);
      going = going;
      closings = closings;
      opens = opens_kept script well told s way.size way.opens e may;
      opening = opening;
    }

    stays : (e : Event) → (part : RoundPart → RoundPart) →
        round_part (context_after script s.context e) ≡ part (round_part s.context) →
        (part (round_part s.context)).stopped ≡ s.context.stopped →
        (part (round_part s.context)).closings ≡ s.context.closings →
        ((context_after script s.context e).stopped ≡ false) × ((context_after script s.context e).closings ≡ 0)
    stays e part is stopped closings = (
      ap (λ (p : RoundPart). p.stopped) is ∙ (stopped ∙ way.going),
      ap (λ (p : RoundPart). p.closings) is ∙ (closings ∙ way.closings),
    )

    not_over : (AllClosed script s.context) ⊎ (s.reactor.failed ≡ true) → ⊥
    not_over (inl closed) =
        let one : length script.rounds ≡ 1 = ap length rounds in
        absurd (omega (arith, closed, one, way.closings))
    not_over (inr failed) = absurd (let wrong : false ≡ true = sym way.works ∙ failed in cc)

    this_is : this_round script s.context ≡ Some (one_round workers)
    this_is = ap (slice_get script.rounds) way.closings ∙ ap (λ all. slice_get all 0) rounds

    next : (e : Event) → MayHappen script told s e → IsOrdinary e →
        IsDoneOf o e ⊎ IsUnderWay (after_event script told s e)
    next (event.Call a) may plain =
        let part = stays (event.Call a) (round_after (event.Call a)) (part-after script s.context (event.Call a)) refl refl in
        inr (goes_on (event.Call a) may refl part.0 part.1 (call_opening a (parent_of script a) refl may))
    next (event.Back a) may plain =
        let part = stays (event.Back a) (round_after (event.Back a)) (part-after script s.context (event.Back a)) refl refl in
        inr (goes_on (event.Back a) may refl part.0 part.1 (back_opening a (parent_of script a) refl may))
    next (event.Stop (Some a)) may plain = absurd (never _ (no_stop a) may.stops)
    next (event.Stop None) may plain = absurd plain
    next (event.Begin p given size) may plain =
        let e : Event = event.Begin p given size in
        let part = stays e (round_after e) (part-after script s.context e) refl refl in
        inr (goes_on e may refl part.0 part.1
        (same_opening s.context (context_after script s.context e) (opening-after script s.context e tt)
        (λ is. begin-phase script o IsAsked asked_further s.context p given
        (λ same. absurd (not_begun script s.context o p given size is may same)) is) way.opening))
    next (event.End p mark) may plain =
        inr (goes_on (event.End p mark) may refl way.going way.closings
        (same_opening s.context (context_after script s.context (event.End p mark)) refl
        (λ is. set-phase script o IsAsked asked_further s.context.acts p _ is
        (λ same. absurd (not_ended script s.context o p is may same))) way.opening))
    next (event.Done p given size) may plain = elim (cases_eq p o) [
      | inl same ↦ inl same
      | inr other ↦
          inr (goes_on (event.Done p given size) may refl way.going way.closings
          (same_opening s.context (context_after script s.context (event.Done p given size)) refl
          (λ is. set-phase script o IsAsked asked_further s.context.acts p _ is (λ same. absurd (other same))) way.opening))
    ]
    next (event.Take a) may plain =
        inr (goes_on (event.Take a) may refl way.going way.closings (same_opening s.context _ refl (λ is. is) way.opening))
    next (event.Tick now) may plain =
        inr (goes_on (event.Tick now) may refl way.going way.closings (same_opening s.context _ refl (λ is. is) way.opening))
    next event.Last may plain =
        inr (goes_on event.Last may refl way.going way.closings (same_opening s.context _ refl (λ is. is) way.opening))
    next event.Fault may plain = absurd plain
    next event.Ended may plain =
        let within = slice_get_within (opening_of script) j o listed in
        let requested = way.opening.waits (omega (arith, within, may.round.begun.opened, way.opening.order)) in
        let outstanding : is_act_outstanding s o ≡ true =
        ap (λ (each : ActPhase). is_outstanding each (was_taken s.reactor o)) requested in
        let some = counts (is_act_outstanding s) (length s.context.acts) o (omega (arith, there, way.size)) outstanding in
        absurd (omega (arith, some, may.idle))
    next event.Stopped may plain = absurd (never _ way.going may.stopped)
    next event.Polled may plain = absurd (let wrong : true ≡ false = sym (ap runs this_is) ∙ may.polls in cc)
    next event.Restart may plain = absurd (let wrong : false ≡ true = sym (ap restarts this_is) ∙ may.wanted in cc)
    next (event.Dropped p mark) may plain = absurd (not_over (over_so may.over))
      where
        over_so : IsOver script s → (AllClosed script s.context) ⊎ (s.reactor.failed ≡ true)
        over_so (inl closed) = inl closed
        over_so (inr failed) = inr failed.0

  here : (e : Event) (events : List Event) → IsDoneOf o e → Completes (e ∷ events) o
  here (event.Done p given size) events is =
      (given, size, (0, omega arith, ap (λ n. event.Done n given size) is))
  here e events is = absurd is

  later : (e : Event) (events : List Event) → Completes events o → Completes (e ∷ events) o
  later e events done = (done.0, done.1, (suc done.2.0, omega (arith, done.2.1), done.2.2))

  completes_from : (told : Bool) (s : State) (events : List Event) → IsLegalFrom script told s events → IsUnderWay s →
      AreOrdinary events → IsWhole script (state_from script told s events) → Completes events o
  completes_from told s [] legal way plain whole = absurd (not_over told s way whole.over)
  completes_from told s (e ∷ events) legal way plain whole = elim (next told s way e legal.0 plain.0) [
    | inl is ↦ here e events is
    | inr on ↦ later e events (completes_from told (after_event script told s e) events legal.1 on plain.1 whole)
  ]

  first_way : (told : Bool) → IsUnderWay (first_state script told)
  first_way told = record {
    size = length-replicate (length script.acts) fresh;
    works = refl;
    going = refl;
    closings = refl;
    opens = λ n root is. absurd (never (is_open (call_at (first_state script told).context n)) (uncalled n) is);
    opening = record { order = omega arith; waits = λ before. absurd (omega (arith, before)) };
  }
    where
      fresh_at : (count n : ℕ) → get_or (replicate count fresh) n fresh ≡ fresh
      fresh_at zero n = refl
      fresh_at (suc count) zero = refl
      fresh_at (suc count) (suc n) = fresh_at count n

      uncalled : (n : ℕ) → is_open (call_at (first_state script told).context n) ≡ false
      uncalled n = ap (λ (act : ActState). is_open act.call) (fresh_at (length script.acts) n)

  pub completes : (told : Bool) (events : List Event) → IsLegal script told events → AreOrdinary events → Completes events o
  completes told events legal plain =
      completes_from told (first_state script told) events legal.legal (first_way told) plain legal.whole
