-- What is recorded of the calls of `open`.
use Rattle.std.proofs.Common.{◌≡◌, ℕ, zero, suc, ◌+◌, ◌-◌, ◌<◌, ◌≤◌, Bool, true, false, cond, List, None, inl, inr, length, replicate, refl, sym, ap, subst, ◌∙◌, arith}
use Rattle.std.specs.Prelude.{sum_by}
use Rattle.std.specs.List.{slice_index_or}
use Rattle.std.proofs.lemmas.Bool.{cases_Bool, cases_lt, false_from_ne_true}
use Rattle.std.proofs.lemmas.List.{get_or-replicate, get_or_past, length-replicate}
use Rattle.std.proofs.lemmas.List.Elements.{All-nil}
use Rattle.std.proofs.lemmas.List.Sums.{sum_by-cons}
use Rattle.session_script.specs.Script.{ScriptModel, opening_of}
use Rattle.session_script.specs.Lanes.{is_inline}
use Rattle.session_script.specs.WellFormed.{HasParent, IsWellFormed}
use Rattle.session_script.proofs.PlacingLemmas.{has_parent}
use Rattle.history_rules.specs.Rounds.{is_running, is_unspent}
use Rattle.history_rules.specs.State.{State, first_reactor, first_state, fresh, no_queues, phase_at}
use Rattle.history_rules.specs.Settling.{expiry_of}
use Rattle.history_rules.specs.declared.phase.ActPhase.{ActPhase}
use Rattle.history_rules.specs.declared.phase.ActPhase.TheVariants as phase
use Rattle.history_rules.specs.declared.phase.ActState.{ActState}
use Rattle.strand_core.specs.Execution.{AnyMark, AreCalls, events_of}
use Rattle.strand_core.specs.Hands.{IsInlineOf}
use Rattle.strand_core.specs.declared.posted.Posted.{Posted}
use Rattle.execution_laws.specs.Accounted.{IsAccounted}
use Rattle.execution_laws.specs.Called.{is_called, settled_phase}
use Rattle.execution_laws.specs.Kinds.{AreOfKind, is_accepted, is_spent, was_called}
use Rattle.execution_laws.specs.Opened.{IsLegalOpening}
use Rattle.execution_laws.specs.Order.{IsKept, has_begun, postings_of, requests_of}
use Rattle.execution_laws.specs.Work.{is_pending}
use Rattle.execution_laws.proofs.AccountedLemmas.{account_opening, not_pending, opened as legally}
use Rattle.execution_laws.proofs.ApartLemmas.{called_from}
use Rattle.execution_laws.proofs.FreeLemmas.{free_opened}
use Rattle.execution_laws.proofs.OpenedLemmas.{is_order_begun}
use Rattle.execution_laws.proofs.PlaceLemmas.{parent_is}
use Rattle.execution_laws.proofs.RestLemmas.{at_each}
use Rattle.execution_laws.proofs.ScriptLemmas.{open_outside}
use Rattle.reactor_turns.specs.Ahead.{one_unless}
use Rattle.book_context.specs.Left.{act_left, act_left_at, events_left, most_history, phase_left, rounds_left}
use Rattle.book_context.specs.Recorded.{IsRecorded, Knows, is_spent_at, recorded_state}
use Rattle.book_context.specs.Recording.{Recording}
use Rattle.reactor_turns.specs.Standing.{queued_of, stands}
use Rattle.book_context.specs.Steps.{OpeningIsRecorded, opened_recording}
use Rattle.book_context.proofs.BoundLemmas.{bounded_body, shown_by}
use Rattle.book_context.proofs.ExecutedStepLemmas.{marked-calls, marked-length}
use Rattle.book_context.proofs.KindLemmas.{settled_accepted, settled_inline, settled_left, settled_other, settled_spent}
use Rattle.book_context.proofs.LeftLemmas.{acts-fall, first_act, first_bounded, left-falls, rounds_left_at}
use Rattle.book_context.proofs.RecordedLemmas.{few_events}
use Rattle.reactor_turns.proofs.SummingLemmas.{one_if, weigh}

-- nothing stands anywhere before the first event
none_queued : (n k : ℕ) → sum_by (queued_of n) (replicate k no_queues) ≡ 0
none_queued n zero = refl
none_queued n (suc k) =
    let first = sum_by-cons (queued_of n) no_queues (replicate k no_queues) in
    let rest = none_queued n k in
    omega (arith, first, rest)

none_stands : (script : ScriptModel) (told : Bool) (n : ℕ) → stands n (first_reactor script told) ≡ 0
none_stands script told n = let none = none_queued n script.world.streams in omega (arith, none)

module _ (told : Bool) (script : ScriptModel) (calls : List Posted) (well : IsWellFormed script)
    (acts : AreCalls script AnyMark (opening_of script) calls) where
  abbrev did : IsLegalOpening script told calls
  did = legally script told calls well acts

  abbrev s : State
  s = first_state script told

  abbrev t : State
  t = record { context = did.after; reactor = first_reactor script told }

  called_phase : (n : ℕ) → is_called n calls ≡ true → phase_at t.context n ≡ settled_phase script n
  called_phase n is = ap (λ (act : ActState). act.phase) (did.opened.called n is).is

  other_phase : (n : ℕ) → is_called n calls ≡ false → phase_at t.context n ≡ phase.Absent
  other_phase n isnt = ap (λ (act : ActState). act.phase) (did.opened.others n isnt)

  by_act : (P : ActPhase → Type 0) (n : ℕ) → (is_called n calls ≡ true → P (settled_phase script n)) → P phase.Absent →
      P (phase_at t.context n)
  by_act P n called others = elim (cases_Bool (is_called n calls)) [
    | inl is ↦ subst P (sym (called_phase n is)) (called is)
    | inr isnt ↦ subst P (sym (other_phase n isnt)) others
  ]

  -- what each act shows
  abbrev shows : ℕ → ℕ
  shows n = cond (is_called n calls) (shown_by script n) 0

  none_taken : (n : ℕ) → slice_index_or (replicate (length script.acts) false) n false ≡ false
  none_taken n = elim (cases_lt n (length script.acts)) [
    | inl within ↦ get_or-replicate (length script.acts) n false false within
    | inr beyond ↦
        get_or_past (replicate (length script.acts) false) n false
        (omega (arith, beyond, length-replicate (length script.acts) false))
  ]

  before_left : (n : ℕ) → act_left_at s n ≡ 7
  before_left n =
      ap (λ (act : ActState).
      act_left act.call act.phase (slice_index_or (replicate (length script.acts) false) n false))
      (first_act script n)

  each_left : (n : ℕ) → act_left_at t n + shows n ≤ act_left_at s n
  each_left n = elim (cases_Bool (is_called n calls)) [
    | inl is ↦
        let now : act_left_at t n ≡ phase_left (settled_phase script n) false =
        ap (λ (act : ActState).
        act_left act.call act.phase (slice_index_or (replicate (length script.acts) false) n false))
        (did.opened.called n is).is
        ∙ ap (phase_left (settled_phase script n)) (none_taken n) in
        let most = settled_left script n in
        let shown : shows n ≡ shown_by script n = ap (λ b. cond b (shown_by script n) 0) is in
        let before = before_left n in
        omega (arith, now, most, shown, before)
    | inr isnt ↦
        let now : act_left_at t n ≡ 7 =
        ap (λ (act : ActState).
        act_left act.call act.phase (slice_index_or (replicate (length script.acts) false) n false))
        (did.opened.others n isnt) in
        let shown : shows n ≡ 0 = ap (λ b. cond b (shown_by script n) 0) isnt in
        let before = before_left n in
        omega (arith, now, shown, before)
  ]

  first_size : length s.context.acts ≡ length script.acts
  first_size = length-replicate (length script.acts) fresh

  left_opened : events_left script t + length (events_of script calls) ≤ events_left script s
  left_opened =
      let less = acts-fall s t shows (did.opened.rest.acts ∙ sym first_size) each_left in
      let shown = bounded_body script well AnyMark None acts in
      let size = ap (weigh (shown_by script) (λ n. is_called n calls)) first_size in
      let stop : one_unless t.context.stopped ≤ 1 = at_most_one t.context.stopped in
      let rounds : rounds_left_at script t ≡ rounds_left_at script s =
      ap (λ closings. rounds_left (length script.rounds - closings) did.after.restarted) did.opened.closings
      ∙ ap (rounds_left (length script.rounds - 0)) did.opened.restarted in
      left-falls script s t (length (events_of script calls)) (omega (arith, less, shown, size, stop, rounds))
    where
      at_most_one : (b : Bool) → one_unless b ≤ 1
      at_most_one true = omega arith
      at_most_one false = omega arith

  fits : length (events_of script calls) ≤ most_history script
  fits = let less = left_opened in let most = first_bounded script told in omega (arith, less, most)

  kinds_now : AreOfKind script t.context
  kinds_now = record {
    operations = λ n is was. elim (cases_Bool (is_called n calls)) [
      | inl called ↦ ap is_accepted (called_phase n called) ∙ settled_accepted script n is
      | inr isnt ↦
          absurd (let wrong : false ≡ true =
          sym (ap (λ (act : ActState). was_called act.call) (did.opened.others n isnt)) ∙ was in
          cc)
    ];
    others = λ n isnt. by_act (λ p. is_unspent p ≡ false) n (λ called. settled_other script n isnt) refl;
    inline = λ n is. by_act (λ p. is_unspent p ≡ false) n (λ called. ap is_unspent (settled_inline script n is)) refl;
  }

  -- nothing executes inside the calls of `open`
  by_depth : (fuel n : ℕ) → n < fuel → is_called n calls ≡ true → is_inline script n ≡ false
  by_depth zero n less is = absurd (omega (arith, less))
  by_depth (suc fuel) n less is = elim (called_from script well AnyMark acts n is) [
    | inl of ↦ open_outside script n (parent_is script well None n of.0 of.1)
    | inr under ↦
        absurd (let wrong : true ≡ false =
        sym under.inline
        ∙ by_depth fuel under.parent
        (omega (arith, less, (subst (HasParent script.acts n) under.is_parent (has_parent script n well)).0))
        under.called in
        cc)
  ]

  called_outside : (n : ℕ) → is_called n calls ≡ true → is_inline script n ≡ false
  called_outside n is = by_depth (suc n) n (omega arith) is

  none_spent : (n : ℕ) → is_spent (phase_at t.context n) ≡ false
  none_spent n = by_act (λ p. is_spent p ≡ false) n (λ called. settled_spent script n ∙ called_outside n called) refl

  abbrev next : Recording
  next = opened_recording script calls

  known : Knows told next t
  known = record {
    script = well;
    legal = did.legal;
    kept = subst (λ u. IsKept script u (postings_of script calls) (requests_of script calls)) did.is
        (is_order_begun script told calls well acts
        (let fit = fits in let few = few_events script well in omega (arith, fit, few)));
    accounted = λ works. subst (IsAccounted script) did.is (account_opening script told calls well acts);
    standing = λ works n.
        let none = none_stands script told n in
        let pending = ap one_if (false_from_ne_true (is_pending t n) (not_pending script told calls well acts n)) in
        none ∙ sym pending;
    ahead = All-nil (λ wait. 0 < expiry_of (first_reactor script told) wait);
    kinds = kinds_now;
    free = free_opened script calls did.after did.opened;
    opened = did.opened.opening;
    called =
        marked-calls calls (replicate (length script.acts) false) s.context did.after
        (length-replicate (length script.acts) false ∙ sym did.opened.rest.acts)
        (λ n. none_taken n ∙ sym (ap (λ (act : ActState). was_called act.call) (first_act script n)))
        (λ n is. ap (λ (act : ActState). was_called act.call) (did.opened.called n is).is)
        (λ n isnt.
        ap (λ (act : ActState). act.call) (did.opened.others n isnt)
        ∙ sym (ap (λ (act : ActState). act.call) (first_act script n)));
    called_size =
        marked-length calls (replicate (length script.acts) false) ∙ length-replicate (length script.acts) false;
    stopped = did.opened.stopped;
    restarted = did.opened.restarted;
    closings = did.opened.closings;
    alive = did.opened.dropping;
    room = let less = left_opened in let most = first_bounded script told in omega (arith, less, most);
    within =
        let fit = fits in
        let few = few_events script well in
        let counted = did.opened.events (omega (arith, fit, few)) in
        omega (arith, fit, few, counted);
  }

  pub has_opened : OpeningIsRecorded told script calls
  has_opened = record {
    room = fits;
    recorded = subst (Knows told next) (sym did.is) known;
    reactor = ap (λ (s : State). s.reactor) did.is;
    spent = λ n. ap (λ (s : State). is_spent (phase_at s.context n)) did.is ∙ none_spent n;
  }

-- an operation that has begun runs or is spent
not_begun : (p : ActPhase) → is_spent p ≡ false → is_running p ≡ false → has_begun p ≡ false
not_begun (phase.Running class progress) spent running = absurd (cc)
not_begun phase.Ended spent running = absurd (cc)
not_begun phase.Absent spent running = refl
not_begun phase.Inside spent running = refl
not_begun phase.Requested spent running = refl
not_begun (phase.Ready code size why) spent running = refl
not_begun phase.Dropped spent running = refl
not_begun phase.Asked spent running = refl

pub inline_kept : (told : Bool) (r : Recording) (caller n : ℕ) → IsRecorded told r → IsInlineOf r.script caller n →
    is_spent_at told r caller ≡ false → is_spent_at told r n ≡ false
inline_kept told r caller n knows inline unspent =
    let s : State = recorded_state told r in
    let waits =
    not_begun (phase_at s.context caller) unspent
    (at_each (λ act. is_running act.phase ≡ false) s.context refl knows.kept.rest.quiet caller) in
    ap is_spent (knows.kept.orderly.uncalled n (knows.kept.orderly.branches n caller inline.0 inline.1 waits))
