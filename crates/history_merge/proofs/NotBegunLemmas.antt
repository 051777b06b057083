-- An operation that was noted at its lane's next place hasn't begun.
use Rattle.std.proofs.Common.{◌≡◌, ◌≢◌, ℕ, suc, ◌+◌, ◌<◌, ◌≤◌, Bool, true, false, not, List, [], ◌∷◌, inl, inr, length, refl, sym, ap, ◌∙◌, arith}
use Rattle.std.specs.Prelude.{◌==◌, ◌&&◌}
use Rattle.std.proofs.lemmas.Bool.{cases_lt, eq-eqb, eqb-true, ne_eqb}
use mathlib.Core.Option.{some}
use lib.ListN.{get_elem?}
use Rattle.asio_types.specs.declared.code.Code.{Code}
use Rattle.asio_types.specs.declared.event.Event.{Event}
use Rattle.asio_types.specs.declared.event.Event.TheVariants as event
use Rattle.session_script.specs.Script.{is_op}
use Rattle.session_script.specs.WellFormed.{IsWellFormed}
use Rattle.history_rules.specs.State.{State, first_state, phase_at}
use Rattle.history_rules.specs.declared.phase.ActPhase.{ActPhase}
use Rattle.history_rules.specs.declared.phase.ActPhase.TheVariants as phase
use Rattle.history_rules.specs.declared.phase.ActState.{ActState}
use Rattle.execution_laws.specs.Order.{has_begun}
use Rattle.reactor_turns.proofs.SummingLemmas.{one_if}
use Rattle.lane_clock.specs.History.{ClockEvent}
use Rattle.lane_clock.proofs.CountLemmas.{few_drawn}
use Rattle.lane_clock.proofs.MomentLemmas.{Tail, tail_same, tails_order, tail_more}
use Rattle.lane_map.specs.LaneNumbers.{reactor_lane}
use Rattle.lane_map.proofs.RankLemmas.{op_within}
use Rattle.lane_logs.specs.Labels.{Labelled, allots}
use Rattle.lane_logs.specs.LaneLog.{is_begin_of}
use Rattle.lane_logs.specs.Logs.{AreLogs, LogsView}
use Rattle.lane_logs.specs.Names.{SessionNames}
use Rattle.history_merge.proofs.BegunLemmas.{begins_of, begun_shown}
use Rattle.history_merge.proofs.CalledLemmas.{first_order}
use Rattle.history_merge.proofs.DatesLemmas.{is_dropped, is_past}
use Rattle.history_merge.proofs.HistoryLemmas.{label_of, shown_count}
use Rattle.history_merge.proofs.LabellingLemmas.{AreLabels}
use Rattle.history_merge.proofs.PlacedLemmas.{is_led_by, led_once, total}
use Rattle.history_merge.proofs.SoLemmas.{IsSo, events_so, state_so}
use Rattle.history_merge.proofs.SoloLemmas.{all_fresh}
use Rattle.history_merge.proofs.StagedLemmas.{labelled_to, seats, sound_to}
use Rattle.history_merge.proofs.TimeLemmas.{IsMade}

-- a begin among events
begin_is : (o : ℕ) (shown : Event) → is_begin_of o shown ≡ true →
    (given : Code) × (size : ℕ) × (shown ≡ event.Begin o given size)
begin_is o (event.Begin other given size) is = (given, size, ap (λ o. event.Begin o given size) (eqb-true other o is))
begin_is o other is = absurd (cc)

find_begin : (o : ℕ) (events : List Event) → 1 ≤ begins_of o events →
    (i : ℕ) × (given : Code) × (size : ℕ) × (get_elem? events i ≡ some (event.Begin o given size))
find_begin o [] found = absurd (omega (arith, found))
find_begin o (shown ∷ events) found =
    by (is_begin_of o shown) refl (λ more.
    let rest = find_begin o events more in (suc rest.0, rest.1, rest.2, rest.3))
  where
    by : (b : Bool) → is_begin_of o shown ≡ b →
        (1 ≤ begins_of o events →
        (i : ℕ) × (given : Code) × (size : ℕ) × (get_elem? (shown ∷ events) i ≡ some (event.Begin o given size))) →
        (i : ℕ) × (given : Code) × (size : ℕ) × (get_elem? (shown ∷ events) i ≡ some (event.Begin o given size))
    by true is later = let begin = begin_is o shown is in (0, begin.0, begin.1, ap some begin.2)
    by false isnt later = later (let none : one_if (is_begin_of o shown) ≡ 0 = ap one_if isnt in omega (arith, none, found))

abbrev newest : (ℕ → List Labelled) → Labelled → List ClockEvent → Labelled
newest labels other [] = other
newest labels other (e ∷ older) = label_of labels older e

-- of labels that pass a test only one was made
module _ (labels : ℕ → List Labelled) (test : ℕ → Labelled → Bool) where
  total_tail : (a es : List ClockEvent) → Tail a es → total labels test a ≤ total labels test es
  total_tail a [] tail = let same = ap (total labels test) tail in omega (arith, same)
  total_tail a (e ∷ es) (inl same) = let all = ap (total labels test) same in omega (arith, all)
  total_tail a (e ∷ es) (inr tail) = let rest = total_tail a es tail in omega (arith, rest)

  module _ (es : List ClockEvent) where
    made_total : (n : ℕ) (label : Labelled) (made : IsMade labels es n label) → test n label ≡ true →
        total labels test (made.e ∷ made.older) ≡ 1 + total labels test made.older
    made_total n label made passes =
        let one : one_if (test made.e.by (label_of labels made.older made.e)) ≡ 1 =
        ap (λ m. one_if (test m (label_of labels made.older made.e))) made.by
        ∙ (ap (λ l. one_if (test n l)) made.is ∙ ap one_if passes) in
        omega (arith, one)

    twice : (m n : ℕ) (one two : Labelled) (first : IsMade labels es m one) (second : IsMade labels es n two) →
        test m one ≡ true → test n two ≡ true → total labels test es ≤ 1 → length first.older < length second.older → ⊥
    twice m n one two first second passes also most shorter =
        let a = made_total m one first passes in
        let b = made_total n two second also in
        let before =
        tails_order (first.e ∷ first.older) second.older es first.tail (tail_more second.older second.e es second.tail)
        (omega (arith, shorter)) in
        let c = total_tail (first.e ∷ first.older) second.older before in
        let d = total_tail (second.e ∷ second.older) es second.tail in
        omega (arith, a, b, c, d, most)

    pub made_once : (m n : ℕ) (one two : Labelled) → IsMade labels es m one → IsMade labels es n two →
        test m one ≡ true → test n two ≡ true → total labels test es ≤ 1 → one ≡ two
    made_once m n one two first second passes also most = elim (cases_lt (length first.older) (length second.older)) [
      | inl shorter ↦ absurd (twice m n one two first second passes also most shorter)
      | inr rest ↦ elim (cases_lt (length second.older) (length first.older)) [
        | inl shorter ↦ absurd (twice n m two one second first also passes most shorter)
        | inr more ↦
            let size : length first.older ≡ length second.older = omega (arith, rest, more) in
            let tail =
            tails_order (first.e ∷ first.older) (second.e ∷ second.older) es first.tail second.tail (omega (arith, size)) in
            let same : first.e ∷ first.older ≡ second.e ∷ second.older =
            tail_same (first.e ∷ first.older) (second.e ∷ second.older) tail (omega (arith, size)) in
            sym first.is ∙ (ap (newest labels (label_of labels first.older first.e)) same ∙ second.is)
      ]
    ]

-- a handler that is past has begun, where none was destroyed
past_begun : (of : ActPhase) → is_past of ≡ true → is_dropped of ≡ false → has_begun of ≡ true
past_begun (phase.Running class progress) is isnt = refl
past_begun phase.Ended is isnt = refl
past_begun phase.Dropped is isnt = absurd (cc)
past_begun other is isnt = absurd (cc)

module _ (names : SessionNames) (well : IsWellFormed names.script) (logs : LogsView) (labels : ℕ → List Labelled)
    (logged : AreLogs names logs) (are : AreLabels names logs labels) (es : List ClockEvent)
    (tail : Tail es logged.closed.history) (so : IsSo names logs labels are es) where
  abbrev s : State
  s = state_so names logs labels are es

  -- a handler that is past was shown to begin
  pub past_shown : (o : ℕ) → is_past (phase_at s.context o) ≡ true →
      (i : ℕ) × (given : Code) × (size : ℕ)
      × (get_elem? (events_so names logs labels are es) i ≡ some (event.Begin o given size))
  past_shown o past =
      let first : State = first_state names.script names.told in
      let count = shown_count labels es (labelled_to names well logs labels logged are es tail) in
      let drew =
      few_drawn names.script.guards (seats names well logs labels logged are) es logged.closed.few.0
      (sound_to names well logs labels logged are es tail) in
      let shown =
      begun_shown names.script well names.told o first (events_so names logs labels are es)
      (first_order names.script names.told) (omega (arith, count, drew)) so.expected in
      let fresh : one_if (has_begun (phase_at (first_state names.script names.told).context o)) ≡ 0 =
      ap (λ (act : ActState). one_if (has_begun act.phase)) (all_fresh (length names.script.acts) o) in
      let begun : one_if (has_begun (phase_at s.context o)) ≡ 1 =
      ap one_if (past_begun (phase_at s.context o) past (so.dates.undropped o)) in
      find_begin o (events_so names logs labels are es) (omega (arith, shown, fresh, begun))

  -- an act that a call's note is of got one place
  pub call_once : (o n k m p i j : ℕ) → is_op names.script o ≡ true → i ≢ reactor_lane names.script →
      j ≢ reactor_lane names.script → IsMade labels es i (allots o n k) → IsMade labels es j (allots o m p) →
      (n ≡ m) × (k ≡ p)
  call_once o n k m p i j op one_away two_away first second =
      let once =
      led_once names logs labels are names.script.guards (seats names well logs labels logged are) o es logged.closed.few.0
      (sound_to names well logs labels logged are es tail) (labelled_to names well logs labels logged are es tail) well
      (op_within names.script o op) so.expected in
      let same : allots o n k ≡ allots o m p =
      made_once labels (is_led_by names.script o) es i j (allots o n k) (allots o m p) first second (led i one_away)
      (led j two_away) once in
      let lanes : n ≡ m = cc in
      let places : k ≡ p = cc in
      (lanes, places)
    where
      led : (i : ℕ) → i ≢ reactor_lane names.script → (not (i == reactor_lane names.script) && (o == o)) ≡ true
      led i away = both (not (i == reactor_lane names.script)) (o == o) (ap not (ne_eqb i (reactor_lane names.script) away)) (eq-eqb o o refl)
        where
          both : (a b : Bool) → a ≡ true → b ≡ true → (a && b) ≡ true
          both true b one two = two
          both false b one two = absurd (cc)
