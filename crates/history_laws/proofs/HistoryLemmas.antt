-- Along a legal history each state is sound, and the events so far show what has become of each act.
use Rattle.std.proofs.Common.{◌≡◌, ◌≢◌, ◌⊎◌, ℕ, ◌+◌, ◌==◌, zero, suc, Bool, true, false, List, [], ◌∷◌, ◌++◌, Some, None, inl, inr, length, refl, sym, ap, subst, ◌∙◌, arith}
use Rattle.std.specs.List.{count_by, slice_index_or}
use Rattle.std.proofs.lemmas.Bool.{cases_Bool, cases_eq, eqb-true}
use Rattle.asio_types.specs.declared.code.Code.{Code}
use Rattle.asio_types.specs.declared.event.Event.{Event}
use Rattle.asio_types.specs.declared.event.Event.TheVariants as event
use Rattle.session_script.specs.Script.{ScriptModel}
use Rattle.session_script.specs.WellFormed.{IsWellFormed}
use Rattle.history_rules.specs.Calls.{accepted}
use Rattle.history_rules.specs.Legal.{IsLegalSoFar, MayHappen, after_event, context_after, state_of}
use Rattle.history_rules.specs.Order.{was_taken}
use Rattle.history_rules.specs.State.{ContextState, State, act_at, call_at, first_state}
use Rattle.history_rules.specs.Time.{at_last, at_time}
use Rattle.history_rules.specs.declared.phase.ActPhase.{ActPhase}
use Rattle.history_rules.specs.declared.phase.ActPhase.TheVariants as phase
use Rattle.history_rules.specs.declared.phase.ActState.{ActState}
use Rattle.history_rules.specs.declared.phase.CallPhase.TheVariants as call
use Rattle.history_rules.specs.declared.phase.Cause.TheVariants as cause
use Rattle.history_laws.specs.Events.{StandsAt, is_begin_of, is_call_of, is_completion_of, is_drop_of, is_end_of, is_return_of, is_take_of}
use Rattle.history_laws.proofs.CountLemmas.{apart-is, count-push, one_if, same-is}
use Rattle.history_laws.proofs.FirstLemmas.{first_act, first_sound, first_taken}
use Rattle.history_laws.proofs.GoingLemmas.{uncalled_moved}
use Rattle.history_laws.proofs.Moves.{Moves, comes_back, completes, destroys, enters, finishes, further, halts, initiates, starts, stays}
use Rattle.history_laws.proofs.MovingLemmas.{moves_begin, moves_call, moves_done, moves_drop, moves_end, moves_return, moves_stop}
use Rattle.history_laws.proofs.ReachLemmas.{along}
use Rattle.history_laws.proofs.ReactorLemmas.{stays_settled, stays_told}
use Rattle.history_laws.proofs.Shown.{IsShown, StandsIn}
use Rattle.history_laws.proofs.ShownLemmas.{accepted-none, begins-moved, begins_shown, calls-moved, calls_shown, completions-moved, drops-moved, drops_shown, ends-moved, ends_shown, returns-moved, returns_shown}
use Rattle.history_laws.proofs.Sound.{IsSound}
use Rattle.history_laws.proofs.TakingLemmas.{taken_now, taken_same, untaken}
use Rattle.history_laws.proofs.TurnSoundLemmas.{drop_quiet, drop_outside, requested, sound_after}

pub stands_more : (before : List Event) (x shown : Event) (place : ℕ) → StandsAt before place shown →
    StandsAt (before ++ x ∷ []) place shown
stands_more [] x shown place at = absurd (cc)
stands_more (first ∷ before) x shown zero at = at
stands_more (first ∷ before) x shown (suc place) at = stands_more before x shown place at

pub stands_last : (before : List Event) (x : Event) → StandsAt (before ++ x ∷ []) (length before) x
stands_last [] x = refl
stands_last (first ∷ before) x = stands_last before x

call_is : (n : ℕ) (e : Event) → is_call_of n e ≡ true → e ≡ event.Call n
call_is n (event.Call a) is = ap (λ a. event.Call a) (eqb-true a n is)
call_is n _ is = absurd (cc)

take_is : (n : ℕ) (e : Event) → is_take_of n e ≡ true → e ≡ event.Take n
take_is n (event.Take a) is = ap (λ a. event.Take a) (eqb-true a n is)
take_is n _ is = absurd (cc)

completed_number : ActPhase → ℕ
completed_number (phase.Ready given size cause.Posted) = 0
completed_number (phase.Ready given size (cause.Completed done turn)) = 1
completed_number _ = 0

uncompleted_accepted : (script : ScriptModel) (n : ℕ) (given : Code) (size done turn : ℕ) →
    accepted script n ≡ phase.Ready given size (cause.Completed done turn) → ⊥
unfolding completed_number
uncompleted_accepted script n given size done turn is =
    let none = accepted-none completed_number refl refl refl refl refl script n in
    let one : completed_number (accepted script n) ≡ 1 = ap completed_number is in
    absurd (omega (arith, none, one))

-- an operation that has completed did so just now or before
ready_moved : (script : ScriptModel) (n : ℕ) (e : Event) (old new : ActState) → Moves script n e old new →
    (given : Code) (size done turn : ℕ) → new.phase ≡ phase.Ready given size (cause.Completed done turn) →
    (old.phase ≡ phase.Ready given size (cause.Completed done turn)) ⊎ (e ≡ event.Done n given size)
ready_moved script n e old new (stays isnt) given size done turn is = inl is
ready_moved script n e old new (further isnt calling more) given size done turn is = absurd (cc)
ready_moved script n e old new initiates given size done turn is =
    absurd (uncompleted_accepted script n given size done turn is)
ready_moved script n e old new (comes_back at opened never) given size done turn is = inl is
ready_moved script n e old new halts given size done turn is = inl is
ready_moved script n e old new starts given size done turn is = absurd (cc)
ready_moved script n e old new enters given size done turn is = absurd (cc)
ready_moved script n e old new (finishes all) given size done turn is = absurd (cc)
ready_moved script n e old new (completes {code = code} {size = moved}) given size done turn is =
    let one : code ≡ given = cc in
    let two : moved ≡ size = cc in
    inr (ap (λ code. event.Done n code moved) one ∙ ap (λ moved. event.Done n given moved) two)
ready_moved script n e old new (destroys unspent isnt never) given size done turn is = absurd (cc)

module _ (script : ScriptModel) (well : IsWellFormed script) (told : Bool) (s : State) (sound : IsSound script s) where
  abbrev c : ContextState
  c = s.context

  -- what each event that may happen makes of each act
  pub moves_after : (e : Event) → MayHappen script told s e → (n : ℕ) →
      Moves script n e (act_at c n) (act_at (context_after script c e) n)
  moves_after (event.Call a) may n = moves_call script well told s sound a may n
  moves_after (event.Back a) may n = moves_return script well told s sound a may n
  moves_after (event.Stop (Some a)) may n = moves_stop script well told s sound a may n
  moves_after (event.Stop None) may n = stays refl
  moves_after (event.Begin o code size) may n = moves_begin script well told s sound o code size may n
  moves_after (event.End o mark) may n = moves_end script well told s sound o mark may n
  moves_after (event.Take a) may n = stays refl
  moves_after (event.Done o code size) may n =
      moves_done script well told s sound o code size (requested script well told s sound o code size may) n
  moves_after (event.Tick now) may n = stays refl
  moves_after event.Last may n = stays refl
  moves_after event.Fault may n = stays refl
  moves_after event.Ended may n = stays refl
  moves_after event.Stopped may n = stays refl
  moves_after event.Polled may n = stays refl
  moves_after event.Restart may n = stays refl
  moves_after (event.Dropped o mark) may n =
      moves_drop script well told s sound o mark may.next.left (drop_quiet script well told s sound o mark may o)
      (drop_outside script well told s sound o mark may) n

  same_taken : (t : State) (n : ℕ) → t.reactor.taken ≡ s.reactor.taken →
      one_if (was_taken t.reactor n) ≡ one_if (was_taken s.reactor n) + 0
  same_taken t n same =
      let is : one_if (was_taken t.reactor n) ≡ one_if (was_taken s.reactor n) =
      ap (λ (taken : List Bool). one_if (slice_index_or taken n false)) same in
      omega (arith, is)

  -- what was taken rises by what is taken
  pub taken_after : (e : Event) → MayHappen script told s e → (n : ℕ) →
      one_if (was_taken (after_event script told s e).reactor n)
      ≡ one_if (was_taken s.reactor n) + one_if (is_take_of n e)
  taken_after (event.Take a) may n = elim (cases_eq n a) [
    | inl same ↦
        subst (λ (n : ℕ). one_if (was_taken (after_event script told s (event.Take a)).reactor n)
        ≡ one_if (was_taken s.reactor n) + one_if (a == n)) (sym same)
        (let now = ap one_if (taken_now script well told s sound a may) in
        let then = ap one_if (untaken script well told s sound a may) in
        let here = ap one_if (same-is a) in omega (arith, now, then, here))
    | inr other ↦
        let is = ap one_if (taken_same script well told s sound a may n other) in
        let none = ap one_if (apart-is a n (λ same. other (sym same))) in omega (arith, is, none)
  ]
  taken_after (event.Done o code size) may n =
      same_taken (after_event script told s (event.Done o code size)) n (stays_told script o s.reactor).taken
  taken_after (event.Tick now) may n =
      same_taken (after_event script told s (event.Tick now)) n (stays_settled told (at_time script told now s.reactor)).taken
  taken_after event.Last may n =
      same_taken (after_event script told s event.Last) n (stays_settled told (at_last told s.reactor)).taken
  taken_after (event.Stop (Some a)) may n = omega arith
  taken_after (event.Stop None) may n = omega arith
  taken_after _ may n = omega arith

  abbrev After : Event → State
  After e = after_event script told s e

  one_taken : (b : Bool) → one_if b ≡ 1 → b ≡ true
  one_taken true is = refl
  one_taken false is = absurd (omega (arith, is))

  pub shown_after : (before : List Event) → IsShown script before s → (e : Event) → MayHappen script told s e →
      IsShown script (before ++ e ∷ []) (After e)
  shown_after before shown e may = record {
    sound = sound_after script well told s sound e may;
    calls = λ n. by_count (is_call_of n) (shown.calls n)
        (calls-moved script n e (act_at c n) (act_at (After e).context n) (moves n));
    returns = λ n. by_count (is_return_of n) (shown.returns n)
        (returns-moved script n e (act_at c n) (act_at (After e).context n) (moves n));
    begins = λ n. by_count (is_begin_of n) (shown.begins n)
        (begins-moved script n e (act_at c n) (act_at (After e).context n) (moves n));
    ends = λ n. by_count (is_end_of n) (shown.ends n) (ends-moved script n e (act_at c n) (act_at (After e).context n) (moves n));
    drops = λ n. by_count (is_drop_of n) (shown.drops n)
        (drops-moved script n e (act_at c n) (act_at (After e).context n) (moves n));
    takes = λ n. by_count (is_take_of n) (shown.takes n) (taken_after e may n);
    completions = λ n.
        let more = completions-moved script n e (act_at c n) (act_at (After e).context n) (moves n) in
        let pushed = count-push (is_completion_of n) before e in omega (arith, more, pushed, shown.completions n);
    called = called;
    taken = taken;
    completed = λ n given size done turn is.
        elim (ready_moved script n e (act_at c n) (act_at (After e).context n) (moves n) given size done turn is) [
          | inl was ↦ more (event.Done n given size) (shown.completed n given size done turn was)
          | inr it ↦ last (event.Done n given size) it
        ];
  }
    where
      moves : (n : ℕ) → Moves script n e (act_at c n) (act_at (After e).context n)
      moves n = moves_after e may n

      by_count : (test : Event → Bool) {old new : ℕ} → count_by test before ≡ old → new ≡ old + one_if (test e) →
          count_by test (before ++ e ∷ []) ≡ new
      by_count test was is = let pushed = count-push test before e in omega (arith, pushed, was, is)

      more : (x : Event) → StandsIn before x → StandsIn (before ++ e ∷ []) x
      more x stands = (stands.0, stands_more before e x stands.0 stands.1)

      last : (x : Event) → e ≡ x → StandsIn (before ++ e ∷ []) x
      last x same = (
        length before,
        subst (λ (x : Event). StandsAt (before ++ e ∷ []) (length before) x) same
            (stands_last before e),
      )

      called : (n : ℕ) → call_at (After e).context n ≢ call.Uncalled → StandsIn (before ++ e ∷ []) (event.Call n)
      called n made = elim (cases_Bool (is_call_of n e)) [
        | inl is ↦ last (event.Call n) (call_is n e is)
        | inr never ↦
            more (event.Call n)
            (shown.called n
            (λ uncalled. made (uncalled_moved script n e (act_at c n) (act_at (After e).context n) (moves n) never uncalled)))
      ]

      taken : (n : ℕ) → was_taken (After e).reactor n ≡ true → StandsIn (before ++ e ∷ []) (event.Take n)
      taken n now = elim (cases_Bool (is_take_of n e)) [
        | inl is ↦ last (event.Take n) (take_is n e is)
        | inr never ↦
            let rose = taken_after e may n in
            let none = ap one_if never in
            let one = ap one_if now in
            more (event.Take n) (shown.taken n (one_taken (was_taken s.reactor n) (omega (arith, rose, none, one))))
      ]

module _ (script : ScriptModel) (well : IsWellFormed script) (told : Bool) where
  pub first_shown : IsShown script [] (first_state script told)
  first_shown = record {
    sound = first_sound script told;
    calls = λ n. sym (ap (λ (act : ActState). calls_shown act.call) (first_act script told n));
    returns = λ n. sym (ap (λ (act : ActState). returns_shown act.call) (first_act script told n));
    begins = λ n. sym (ap (λ (act : ActState). begins_shown act.phase) (first_act script told n));
    ends = λ n. sym (ap (λ (act : ActState). ends_shown act.phase) (first_act script told n));
    drops = λ n. sym (ap (λ (act : ActState). drops_shown act.phase) (first_act script told n));
    takes = λ n. sym (ap one_if (first_taken script told n));
    completions = λ n. omega arith;
    called = λ n made. absurd (made (ap (λ (act : ActState). act.call) (first_act script told n)));
    taken = λ n is. absurd (let wrong : false ≡ true = sym (first_taken script told n) ∙ is in cc);
    completed = λ n given size done turn is.
        absurd (let wrong : phase.Absent ≡ phase.Ready given size (cause.Completed done turn) =
        sym (ap (λ (act : ActState). act.phase) (first_act script told n)) ∙ is in
        cc);
  }

  -- the events so far show what has become of each act
  pub shown_so_far : (events : List Event) → IsLegalSoFar script told events →
      IsShown script events (state_of script told events)
  shown_so_far events legal =
      along script told (IsShown script)
      (λ before s e shown may. shown_after script well told s shown.sound before shown e may) [] (first_state script told)
      first_shown events legal
