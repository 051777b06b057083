-- What was called and what has begun is what the events show: so the handlers that are left are those that were called
-- and didn't begin.
use Rattle.std.proofs.Common.{◌≡◌, ◌≢◌, ◌⊎◌, ℕ, ◌+◌, ◌<◌, ◌≤◌, Bool, true, false, List, [], ◌∷◌, inl, inr, ⊎_elim, length, refl, sym, ap, ◌∙◌, arith}
use Rattle.std.specs.Prelude.{◌&&◌, nat_lt, not}
use Rattle.std.proofs.lemmas.Bool.{eq-eqb, lt-ltb}
use Rattle.asio_types.specs.Faults.{most_faults}
use Rattle.asio_types.specs.declared.event.Event.{Event}
use Rattle.asio_types.specs.declared.event.Event.TheVariants as event
use Rattle.session_script.specs.Script.{ScriptModel, is_op}
use Rattle.session_script.specs.WellFormed.{IsWellFormed}
use Rattle.history_rules.specs.declared.phase.ActPhase.{ActPhase}
use Rattle.history_rules.specs.declared.phase.ActPhase.TheVariants as phase
use Rattle.history_rules.specs.declared.phase.ActState.{ActState}
use Rattle.history_rules.specs.declared.phase.CallPhase.{CallPhase}
use Rattle.history_rules.specs.declared.phase.CallPhase.TheVariants as call
use Rattle.history_rules.specs.Legal.{MayHappen, after_event, context_after, state_from}
use Rattle.history_rules.specs.Rounds.{is_unspent}
use Rattle.history_rules.specs.State.{State, call_at, first_state, fresh, phase_at}
use Rattle.execution_laws.specs.Kinds.{is_accepted, was_called}
use Rattle.execution_laws.specs.Order.{has_begun}
use Rattle.lane_logs.specs.Drops.{has_call, is_call_of}
use Rattle.lane_logs.specs.LaneLog.{has_begun as shows_begin, is_begin_of}
use Rattle.reactor_turns.proofs.SummingLemmas.{one_if}
use Rattle.history_merge.specs.Among.{is_underway}
use Rattle.history_merge.proofs.BegunLemmas.{begins_of, begun_exact}
use Rattle.history_merge.proofs.CalledLemmas.{AreExpected, called_once, calls_of, first_order}
use Rattle.history_merge.proofs.CountedLemmas.{counted_is, counted_most}
use Rattle.history_merge.proofs.DatesLemmas.{is_dropped}
use Rattle.history_merge.proofs.EachActLemmas.{act_in}
use Rattle.history_merge.proofs.EventOrderLemmas.{acts_later, in_order}
use Rattle.history_merge.proofs.KindLemmas.{AreOfKind}
use Rattle.history_merge.proofs.OrderlyLemmas.{IsCallOf, IsExpected, IsInOrder}
use Rattle.history_merge.proofs.SoloLemmas.{all_fresh}
use Rattle.history_merge.proofs.TimesLemmas.{any_times}

one_tells : (b : Bool) (n : ℕ) → one_if b ≡ n → b ≡ nat_lt 0 n
one_tells true n is = sym (lt-ltb 0 n (omega (arith, is)))
one_tells false n is = ap (nat_lt 0) is

called_is : (of : CallPhase) → of ≢ call.Uncalled → was_called of ≡ true
called_is call.Uncalled isnt = absurd (isnt refl)
called_is (call.Open called) isnt = refl
called_is (call.Stopping called) isnt = refl
called_is (call.Back called back) isnt = refl

uncalled_is : (of : CallPhase) → was_called of ≡ false → of ≡ call.Uncalled
uncalled_is call.Uncalled isnt = refl
uncalled_is (call.Open called) isnt = absurd (cc)
uncalled_is (call.Stopping called) isnt = absurd (cc)
uncalled_is (call.Back called back) isnt = absurd (cc)

was_called_isnt : (of : CallPhase) → was_called of ≡ true → of ≢ call.Uncalled
was_called_isnt of is uncalled = let wrong : true ≡ false = sym is ∙ ap was_called uncalled in cc

module _ (script : ScriptModel) (well : IsWellFormed script) (told : Bool) where
  module _ (act : ℕ) where
    abbrev has_called : State → Bool
    has_called s = was_called (call_at s.context act)

    -- what was called is what was shown to be called
    called_here : (s : State) (shown : Event) → IsInOrder script s.context → s.context.events < most_faults →
        MayHappen script told s shown → IsExpected s.context shown →
        has_called (after_event script told s shown) ≡ true → (has_called s ≡ true) ⊎ (is_call_of act shown ≡ true)
    called_here s shown order room may expected is =
        elim ((acts_later script well told s order room shown may expected act).called
        (was_called_isnt (call_at (context_after script s.context shown) act) is)) [
          | inl was ↦ inl (called_is (call_at s.context act) was)
          | inr now ↦ inr (of_event shown now)
        ]
      where
        of_event : (shown : Event) → IsCallOf shown act → is_call_of act shown ≡ true
        of_event (event.Call a) same = eq-eqb a act (sym same)
        of_event other same = absurd same

    called_most : (s : State) (events : List Event) → IsInOrder script s.context →
        s.context.events + length events < most_faults → AreExpected script told s events →
        one_if (has_called (state_from script told s events)) ≤ one_if (has_called s) + calls_of act events
    called_most s [] order room are = omega arith
    called_most s (shown ∷ events) order room are =
        let next : State = after_event script told s shown in
        let one : next.context.events ≤ s.context.events + 1 =
        let is = counted_is script told s (shown ∷ []) (omega (arith, room)) in
        let most = counted_most (shown ∷ []) in omega (arith, is, most) in
        let rest =
        called_most next events
        (in_order script well told s order (omega (arith, room)) shown are.0 are.1) (omega (arith, room, one)) are.2 in
        let now =
        by_bool (has_called next) (has_called s) (is_call_of act shown)
        (called_here s shown order (omega (arith, room)) are.0 are.1) in
        omega (arith, rest, now)
      where
        by_bool : (after before is : Bool) → (after ≡ true → (before ≡ true) ⊎ (is ≡ true)) →
            one_if after ≤ one_if before + one_if is
        by_bool true true is so = omega arith
        by_bool true false true so = omega arith
        by_bool true false false so = ⊎_elim (λ wrong. absurd (cc)) (λ wrong. absurd (cc)) (so refl)
        by_bool false before is so = omega arith

-- what is left unspent where nothing is under way
left_by : (of : ActPhase) (operation called begun : Bool) → is_underway of ≡ false → is_dropped of ≡ false →
    (operation ≡ false → is_unspent of ≡ false) → (operation ≡ true → called ≡ true → is_accepted of ≡ true) →
    (called ≡ false → of ≡ phase.Absent) → has_begun of ≡ begun →
    is_unspent of ≡ ((operation && called) && not begun)
left_by of false called begun under kept spent entered absent is = spent refl
left_by of true false begun under kept spent entered absent is = ap is_unspent (absent refl)
left_by phase.Absent true true begun under kept spent entered absent is = absurd (let wrong = entered refl refl in cc)
left_by phase.Asked true true begun under kept spent entered absent is = absurd (let wrong = entered refl refl in cc)
left_by phase.Inside true true begun under kept spent entered absent is = absurd (cc)
left_by phase.Requested true true begun under kept spent entered absent is = ap not is
left_by (phase.Ready given size why) true true begun under kept spent entered absent is = ap not is
left_by (phase.Running class progress) true true begun under kept spent entered absent is = absurd (cc)
left_by phase.Ended true true begun under kept spent entered absent is = ap not is
left_by phase.Dropped true true begun under kept spent entered absent is = absurd (cc)

-- what was called is what was shown to be, and what wasn't never began
untouched_by : (operation called shown begun : Bool) → called ≡ shown → (called ≡ false → begun ≡ false) →
    ((operation && not shown) && not begun) ≡ (operation && not called)
untouched_by false called shown begun same never = refl
untouched_by true true true begun same never = refl
untouched_by true true false begun same never = absurd (cc same)
untouched_by true false true begun same never = absurd (cc same)
untouched_by true false false begun same never = ap not (never refl)

module _ (script : ScriptModel) (well : IsWellFormed script) (told : Bool) (events : List Event)
    (room : length events < most_faults) (are : AreExpected script told (first_state script told) events)
    (kept : (n : ℕ) → is_dropped (phase_at (state_from script told (first_state script told) events).context n) ≡ false)
  where
    abbrev last : State
    last = state_from script told (first_state script told) events

    fresh_at : (n : ℕ) → act_in (first_state script told).context.acts n ≡ fresh
    fresh_at n = all_fresh (length script.acts) n

    called_exact : (n : ℕ) → n < length script.acts → was_called (call_at last.context n) ≡ has_call n events
    called_exact n within =
        let before : one_if (was_called (call_at (first_state script told).context n)) ≡ 0 =
        ap (λ (act : ActState). one_if (was_called act.call)) (fresh_at n) in
        let most =
        called_most script well told n (first_state script told) events (first_order script told) (omega (arith, room)) are in
        let least =
        called_once script well told n within (first_state script told) events (first_order script told) (omega (arith, room))
        are in
        one_tells (was_called (call_at last.context n)) (calls_of n events) (omega (arith, before, most, least))
        ∙ sym (any_times (is_call_of n) events)

    begun_is : (n : ℕ) → has_begun (phase_at last.context n) ≡ shows_begin n events
    begun_is n =
        let before : one_if (has_begun (phase_at (first_state script told).context n)) ≡ 0 =
        ap (λ (act : ActState). one_if (has_begun act.phase)) (fresh_at n) in
        let exact =
        begun_exact script well told n (first_state script told) events (first_order script told) (omega (arith, room)) are in
        one_tells (has_begun (phase_at last.context n)) (begins_of n events) (omega (arith, before, exact))
        ∙ sym (any_times (is_begin_of n) events)

    -- so these handlers are left
    pub left_exact : (n : ℕ) → n < length script.acts → IsInOrder script last.context → AreOfKind script last.context.acts →
        is_underway (phase_at last.context n) ≡ false →
        is_unspent (phase_at last.context n) ≡ ((is_op script n && has_call n events) && not (shows_begin n events))
    left_exact n within order kinds under =
        left_by (phase_at last.context n) (is_op script n) (was_called (call_at last.context n)) (shows_begin n events) under
        (kept n)
        (kinds n).spent (kinds n).entered
        (λ isnt. (order.acts n).absent (uncalled_is (call_at last.context n) isnt)) (begun_is n)
        ∙ ap (λ called. (is_op script n && called) && not (shows_begin n events)) (called_exact n within)

    -- and these are those of operations that were never initiated
    pub untouched_exact : (n : ℕ) → n < length script.acts → IsInOrder script last.context →
        ((is_op script n && not (has_call n events)) && not (shows_begin n events))
        ≡ (is_op script n && not (was_called (call_at last.context n)))
    untouched_exact n within order =
        untouched_by (is_op script n) (was_called (call_at last.context n)) (has_call n events) (shows_begin n events)
        (called_exact n within)
        (λ isnt. sym (begun_is n) ∙ ap has_begun ((order.acts n).absent (uncalled_is (call_at last.context n) isnt)))
