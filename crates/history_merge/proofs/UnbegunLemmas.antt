-- An operation that was noted at its lane's next place hasn't begun: had it, its place would be an earlier one.
use Rattle.std.proofs.Common.{◌≡◌, ◌≢◌, ℕ, ◌+◌, ◌<◌, ◌≤◌, Bool, true, false, List, ◌∷◌, ◌++◌, inl, inr, length, drop, refl, sym, ap, subst, ◌∙◌, arith, length-append}
use Rattle.std.specs.Prelude.{◌==◌, ◌&&◌}
use Rattle.std.proofs.lemmas.Bool.{cases_eq, eq-eqb}
use Rattle.asio_types.specs.declared.code.Code.{Code}
use Rattle.asio_types.specs.declared.event.Event.TheVariants as event
use Rattle.session_script.specs.Script.{is_op}
use Rattle.session_script.specs.WellFormed.{IsWellFormed}
use Rattle.history_rules.specs.Kinds.{is_act, is_posting}
use Rattle.history_rules.specs.State.{State, phase_at}
use Rattle.reactor_turns.proofs.SummingLemmas.{one_if}
use Rattle.lane_clock.specs.declared.found.Change.{Change}
use Rattle.lane_clock.specs.declared.found.Change.TheVariants as change
use Rattle.lane_clock.specs.declared.found.Found.{Found}
use Rattle.lane_clock.specs.declared.note.Note.{Note}
use Rattle.lane_clock.specs.History.{ClockEvent, steps_under}
use Rattle.lane_clock.proofs.MomentLemmas.{Tail, tail_more, tail_refl, tail_trans}
use Rattle.lane_map.specs.LaneNumbers.{home_lane, reactor_lane}
use Rattle.lane_logs.specs.Labels.{Labelled, allots, shows}
use Rattle.lane_logs.specs.Logs.{AreLogs, LogsView}
use Rattle.lane_logs.specs.Names.{SessionNames}
use Rattle.lane_logs.specs.Parts.{Part, labels_in, next_place, places_used}
use Rattle.lane_logs.specs.SeatNumbers.{lane_count}
use Rattle.history_merge.proofs.AlikeLemmas.{never}
use Rattle.history_merge.proofs.BackLemmas.{allots_for}
use Rattle.history_merge.proofs.BeginPartLemmas.{BeginsPart, begins_part, next_beyond, two_cuts}
use Rattle.history_merge.proofs.CellsEnoughLemmas.{reacts, reacts_total}
use Rattle.history_merge.proofs.CellRoomLemmas.{told_once}
use Rattle.history_merge.proofs.DatesLemmas.{is_past}
use Rattle.history_merge.proofs.LabellingLemmas.{AreLabels}
use Rattle.history_merge.proofs.NotBegunLemmas.{call_once, made_once, past_shown}
use Rattle.history_merge.proofs.NoteLemmas.{IsDoneNote, IsNoted, IsNotedOp, call_note_op, lift_noted}
use Rattle.history_merge.proofs.PartLemmas.{all_made, made-append}
use Rattle.history_merge.proofs.ReactorPlaceLemmas.{awaits}
use Rattle.history_merge.proofs.SoLemmas.{IsSo, state_so}
use Rattle.history_merge.proofs.StagedLemmas.{IsNextOf, executing_op, label, labelled_to, next_of, off_others, reactor_within}
use Rattle.history_merge.proofs.TimeLemmas.{IsMade, made_shown, made_within, shown_made}
use Rattle.history_merge.proofs.TimesLemmas.{take_times}

one_most : (b : Bool) → one_if b ≤ 1
one_most true = omega arith
one_most false = omega arith

module _ (names : SessionNames) (well : IsWellFormed names.script) (logs : LogsView) (labels : ℕ → List Labelled)
    (logged : AreLogs names logs) (are : AreLabels names logs labels) where
  abbrev r : ℕ
  r = reactor_lane names.script

  abbrev reacting : r < lane_count names.script
  reacting = reactor_within names well logs labels logged are

  -- all notes of an operation of a lane were put at one place
  module _ (es : List ClockEvent) (tail : Tail es logged.closed.history) (so : IsSo names logs labels are es)
      (n : ℕ) (away : n ≢ reactor_lane names.script) where
    -- an operation that completes got one place
    done_once : (o m p : ℕ) → IsMade labels es r (allots o n m) → IsMade labels es r (allots o n p) → m ≡ p
    done_once o m p first second =
        let all = labelled_to names well logs labels logged are es tail in
        let count = reacts_total labels r (allots_for o) es all in
        let fewer = take_times (allots_for o) (labels r) (length (steps_under r es)) in
        let once = told_once names well logs labels are o in
        let most = one_most (awaits names.script o) in
        let passes : (r == r && o == o) ≡ true = both (r == r) (o == o) (eq-eqb r r refl) (eq-eqb o o refl) in
        let same : allots o n m ≡ allots o n p =
        made_once labels (reacts labels r (allots_for o)) es r r (allots o n m) (allots o n p) first second passes passes
        (omega (arith, count, fewer, once, most)) in
        cc
      where
        both : (a b : Bool) → a ≡ true → b ≡ true → (a && b) ≡ true
        both true b one two = two
        both false b one two = absurd (cc)

    -- it is no posting
    unposted : (m : ℕ) (note : Note) → IsDoneNote names logs labels are reacting es n m note →
        is_act is_posting names.script note.op ≡ false
    unposted m note is =
        (so.dates.kind note.op note.code note.size _
        (made_shown labels es r (event.Done note.op note.code note.size) change.Same is.found is.told)).unposted

    one_place : (m p : ℕ) (first second : Note) → is_op names.script first.op ≡ true → second.op ≡ first.op →
        IsNoted names logs labels are reacting es n m first → IsNoted names logs labels are reacting es n p second → m ≡ p
    one_place m p first second op same (inl one) (inl two) =
        (call_once names well logs labels logged are es tail so first.op n m n p one.number two.number op one.away two.away
        one.placed (subst (λ o. IsMade labels es two.number (allots o n p)) same two.placed)).1
    one_place m p first second op same (inr one) (inr two) =
        done_once first.op m p one.placed (subst (λ o. IsMade labels es r (allots o n p)) same two.placed)
    one_place m p first second op same (inl one) (inr two) =
        absurd (never (is_act is_posting names.script first.op)
        (subst (λ o. is_act is_posting names.script o ≡ false) same (unposted p second two))
        (call_note_op names logs labels are reacting well es (labelled_to names well logs labels logged are es tail) n m first
        away one).posts)
    one_place m p first second op same (inr one) (inl two) =
        absurd (never (is_act is_posting names.script first.op) (unposted m first one)
        (subst (λ o. is_act is_posting names.script o ≡ true) same
        (call_note_op names logs labels are reacting well es (labelled_to names well logs labels logged are es tail) n p second
        away two).posts))

  -- Of two steps that begin executions of a lane, the place of the earlier one comes first
  module _ (n : ℕ) (inside : n < lane_count names.script) (below : n < reactor_lane names.script)
      (one : ClockEvent) (older : List ClockEvent) (before : Tail (one ∷ older) logged.closed.history)
      (two : ClockEvent) (es : List ClockEvent) (tail : Tail (two ∷ es) logged.closed.history)
      (was : IsNextOf names well logs labels logged are one older before n inside)
      (now : IsNextOf names well logs labels logged are two es tail n inside) where
    abbrev Made : List Part → List Labelled
    Made = all_made Part (labels_in names.script n)

    longer : (between : List Part) (part : Part) (earlier : List Part) →
        length (Made earlier) + length (labels_in names.script n part) ≤ length (Made (between ++ part ∷ earlier))
    longer between part earlier =
        let more = made-append Part (labels_in names.script n) between (part ∷ earlier) in
        let size = ap length more.1 ∙ length-append (Made (part ∷ earlier)) more.0 in
        let both : length (Made (part ∷ earlier)) ≡ length (Made earlier) + length (labels_in names.script n part) =
        length-append (Made earlier) (labels_in names.script n part) in
        omega (arith, size, both)

    place_before : (x y : ℕ) (first : BeginsPart names well logs labels logged are one older before n inside below was x)
        (second : BeginsPart names well logs labels logged are two es tail n inside below now y) →
        length (steps_under n older) < length (steps_under n es) → first.part.place < second.part.place
    place_before x y first second less =
        let same : was.at.later ++ was.at.part ∷ was.at.earlier ≡ now.at.later ++ now.at.part ∷ now.at.earlier =
        sym was.at.parts_are ∙ now.at.parts_are in
        let early : length (steps_under n older) ≡ length (Made was.at.earlier) + 2 =
        was.at.index ∙ ap (λ xs. length (Made was.at.earlier) + length xs) first.front in
        let late : length (steps_under n es) ≡ length (Made now.at.earlier) + 2 =
        now.at.index ∙ ap (λ xs. length (Made now.at.earlier) + length xs) second.front in
        let from = first.may.next in
        let to = second.may.next in
        elim (two_cuts Part now.at.later now.at.part now.at.earlier was.at.later was.at.part was.at.earlier (sym same)) [
          | inl equal ↦
              absurd (let sizes : length (Made now.at.earlier) ≡ length (Made was.at.earlier) =
              ap (λ ps. length (Made (drop 1 ps))) equal in
              omega (arith, sizes, early, late, less))
          | inr other ↦ elim other [
            | inl behind ↦
                let size = next_beyond behind.0 was.at.part was.at.earlier in
                let used : places_used was.at.part ≡ 1 = ap places_used first.is in
                let all : next_place now.at.earlier ≡ next_place (behind.0 ++ was.at.part ∷ was.at.earlier) =
                ap next_place behind.1 in
                omega (arith, size, used, all, from, to)
            | inr behind ↦
                absurd (let size = longer behind.0 now.at.part now.at.earlier in
                let all = ap (λ ps. length (Made ps)) behind.1 in
                omega (arith, size, all, early, late, less))
          ]
        ]

  -- So what begins now had not begun
  module _ (e : ClockEvent) (es : List ClockEvent) (tail : Tail (e ∷ es) logged.closed.history)
      (so : (a : List ClockEvent) → Tail a es → IsSo names logs labels are a)
      (n : ℕ) (by : e.by ≡ n) (inside : n < lane_count names.script) (below : n < reactor_lane names.script)
      (next : IsNextOf names well logs labels logged are e es tail n inside)
      (x : ℕ) (given : Code) (size : ℕ) (changes : Change) (found : Found)
      (begins : label names well logs labels logged are e es tail ≡ shows (event.Begin x given size) changes found)
      (noted : IsNotedOp names logs labels are (reactor_within names well logs labels logged are) n x) where
    abbrev s : State
    s = state_so names logs labels are es

    so_far : Tail es logged.closed.history
    so_far = tail_more es e logged.closed.history tail

    away : n ≢ reactor_lane names.script
    away same = absurd (omega (arith, same, below))

    own : BeginsPart names well logs labels logged are e es tail n inside below next x
    own = begins_part names well logs labels logged are e es tail n inside below next x given size changes found begins noted.unentered

    module _ (number : ℕ) (code : Code) (bytes : ℕ) (other : Change) (drawn : Found)
        (made : IsMade labels es number (shows (event.Begin x code bytes) other drawn)) where
      before : Tail (made.e ∷ made.older) logged.closed.history
      before = tail_trans (made.e ∷ made.older) es logged.closed.history made.tail so_far

      older_tail : Tail made.older es
      older_tail = tail_more made.older made.e es made.tail

      -- only the lane itself begins it
      same_lane : made.e.by ≡ n
      same_lane = elim (cases_eq (home_lane names.script x) made.e.by) [
        | inl is ↦ sym is ∙ noted.home
        | inr isnt ↦
            absurd ((off_others names well logs labels logged are made.e made.older before (so made.older older_tail)
            (event.Begin x code bytes) other drawn made.is).off x noted.op_is isnt refl)
      ]

      was : IsNextOf names well logs labels logged are made.e made.older before n inside
      was = next_of names well logs labels logged are made.e made.older before n same_lane inside

      first : BeginsPart names well logs labels logged are made.e made.older before n inside below was x
      first =
          begins_part names well logs labels logged are made.e made.older before n inside below was x code bytes other drawn made.is
          noted.unentered

      twice : ⊥
      twice =
          let once : IsMade labels es n (shows (event.Begin x code bytes) other drawn) =
          record { e = made.e; older = made.older; tail = made.tail; by = same_lane; is = made.is } in
          let less =
          place_before n inside below made.e made.older before e es tail was next x x first own
          (made_within labels es n (shows (event.Begin x code bytes) other drawn) once) in
          let now =
          (executing_op names well logs labels logged are e es tail (so es (tail_refl es)) n by inside below next own.part own.is
          (event.Begin x given size) changes found begins).0 in
          let then =
          lift_noted names logs labels are reacting made.older es older_tail n first.part.place first.part.note
          (executing_op names well logs labels logged are made.e made.older before (so made.older older_tail) n same_lane inside
          below was first.part first.is (event.Begin x code bytes) other drawn made.is).0 in
          let one =
          one_place es so_far (so es (tail_refl es)) n away own.part.place first.part.place own.part.note first.part.note
          (ap (is_op names.script) own.of ∙ noted.op_is) (first.of ∙ sym own.of) now then in
          omega (arith, less, one)

    pub unbegun : is_past (phase_at (state_so names logs labels are es).context x) ≡ false
    unbegun = by_test (is_past (phase_at s.context x)) refl
      where
        by_test : (b : Bool) → is_past (phase_at s.context x) ≡ b → is_past (phase_at s.context x) ≡ false
        by_test false is = is
        by_test true past =
            let shown = past_shown names well logs labels logged are es so_far (so es (tail_refl es)) x past in
            let it =
            shown_made labels es (event.Begin x shown.1 shown.2) _ (record { at = shown.0; there = shown.3; counts = refl }) in
            absurd (twice it.number shown.1 shown.2 it.changes it.found it.made)
