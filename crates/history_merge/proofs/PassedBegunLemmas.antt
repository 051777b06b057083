-- An operation that got a place of a lane before its next place has begun, and a request one of the reactor's was taken.
use Rattle.std.proofs.Common.{◌≡◌, ℕ, ◌+◌, ◌<◌, true, List, ◌∷◌, ◌++◌, Some, inl, inr, length, refl, sym, ap, subst, ◌∙◌, arith, append_assoc, length-append}
use mathlib.Core.Option.{some}
use lib.ListN.{get_elem?}
use Rattle.asio_types.specs.declared.event.Event.TheVariants as event
use Rattle.session_script.specs.WellFormed.{IsWellFormed}
use Rattle.history_rules.specs.Order.{was_taken}
use Rattle.history_rules.specs.State.{State, phase_at}
use Rattle.lane_clock.specs.declared.found.Change.{Change}
use Rattle.lane_clock.specs.declared.found.Change.TheVariants as change
use Rattle.lane_clock.specs.declared.found.Found.{Found}
use Rattle.lane_clock.specs.declared.note.Note.{Note}
use Rattle.lane_clock.specs.declared.step.ClockStep.{ClockStep}
use Rattle.lane_clock.specs.declared.step.ClockStep.TheVariants.{Look}
use Rattle.lane_clock.specs.History.{ClockEvent}
use Rattle.lane_clock.proofs.MomentLemmas.{Tail, tail_more}
use Rattle.lane_map.specs.LaneNumbers.{reactor_lane}
use Rattle.lane_logs.specs.Labels.{Labelled, allots, shows, silent}
use Rattle.lane_logs.specs.LaneLog.{AreParts, MayFollow}
use Rattle.lane_logs.specs.Logs.{AreLogs, LogsView}
use Rattle.lane_logs.specs.Names.{IsNamedMark, SessionNames}
use Rattle.lane_logs.specs.Parts.{ExecutedPart, Part, TurnPart, TurnStart, end_labels, executed, failed, idle, labels_in, missing, next_place, passes, start_labels, takes, turned}
use Rattle.lane_logs.specs.SeatNumbers.{lane_count, opener_seat}
use Rattle.history_merge.proofs.DatesLemmas.{is_past}
use Rattle.history_merge.proofs.LabellingLemmas.{AreLabels, lane_are}
use Rattle.history_merge.proofs.NextLeftLemmas.{execution_first}
use Rattle.history_merge.proofs.NoteLemmas.{IsNoted, seen}
use Rattle.history_merge.proofs.PartLemmas.{Follow, all_made, follow_from, made-append}
use Rattle.history_merge.proofs.PassedLemmas.{TakesPlace, UsesPlace, passed}
use Rattle.history_merge.proofs.SoLemmas.{IsSo, state_so}
use Rattle.history_merge.proofs.StagedLemmas.{IsNextOf, labelled_to, part_label, reactor_within, seats, sound_to}
use Rattle.history_merge.proofs.TimeLemmas.{IsMade, made_of, made_shown, placed_once}

module _ (names : SessionNames) (well : IsWellFormed names.script) (logs : LogsView) (labels : ℕ → List Labelled)
    (logged : AreLogs names logs) (are : AreLabels names logs labels) (e : ClockEvent) (es : List ClockEvent)
    (tail : Tail (e ∷ es) logged.closed.history) (so : IsSo names logs labels are es)
    (n : ℕ) (inside : n < lane_count names.script)
    (next : IsNextOf names well logs labels logged are e es tail n inside) where
  abbrev Makes : Part → List Labelled
  Makes = labels_in names.script n

  abbrev Opener : List ClockStep
  Opener = logs.lists (opener_seat names.script)

  abbrev s : State
  s = state_so names logs labels are es

  so_far : Tail es logged.closed.history
  so_far = tail_more es e logged.closed.history tail

  -- the parts before the one in which the step stands
  earlier_are : AreParts names Opener n next.at.earlier
  earlier_are =
      lane_are names Opener n next.at.earlier
      (follow_from Part Makes (MayFollow names Opener n) next.at.later (next.at.part ∷ next.at.earlier)
      (subst (Follow Part Makes (MayFollow names Opener n)) next.at.parts_are (are.lanes n inside).follow)).0

  -- a label of one of them was made
  earlier_made : (later : List Part) (part : Part) (earlier : List Part) → next.at.earlier ≡ later ++ part ∷ earlier →
      (j : ℕ) (label : Labelled) → j < length (labels_in names.script n part) →
      get_elem? (labels_in names.script n part) j ≡ some label → IsMade labels es n label
  earlier_made later part earlier parts j label less at =
      let made = are.lanes n inside in
      let whole : made.parts ≡ (next.at.later ++ next.at.part ∷ later) ++ part ∷ earlier =
      next.at.parts_are
      ∙ (ap (λ ps. next.at.later ++ next.at.part ∷ ps) parts
      ∙ sym (append_assoc next.at.later (next.at.part ∷ later) (part ∷ earlier))) in
      let there : get_elem? (labels n) (length (all_made Part Makes earlier) + j) ≡ some label =
      ap (λ xs. get_elem? xs (length (all_made Part Makes earlier) + j)) (made.are ∙ ap (all_made Part Makes) whole)
      ∙ (part_label Part Makes (next.at.later ++ next.at.part ∷ later) part earlier j less ∙ at) in
      let more = made-append Part Makes later (part ∷ earlier) in
      let size : length (all_made Part Makes next.at.earlier)
      ≡ length (all_made Part Makes earlier) + length (labels_in names.script n part) + length more.0 =
      ap (λ ps. length (all_made Part Makes ps)) parts
      ∙ (ap length more.1
      ∙ (length-append (all_made Part Makes (part ∷ earlier)) more.0
      ∙ ap (λ k. k + length more.0) (length-append (all_made Part Makes earlier) (labels_in names.script n part)))) in
      let index = next.at.index in
      (made_of labels es (labelled_to names well logs labels logged are es so_far) n
      (length (all_made Part Makes earlier) + j) label there (omega (arith, size, index, less))).0

  -- below the reactor's lane
  module _ (below : n < reactor_lane names.script) where
    by_part : (later : List Part) (part : Part) (earlier : List Part) → next.at.earlier ≡ later ++ part ∷ earlier →
        MayFollow names Opener n earlier part → (x number p : ℕ) → UsesPlace part p →
        IsMade labels es number (allots x n p) → is_past (phase_at s.context x) ≡ true
    by_part later (idle step) earlier parts may x number p uses made = absurd uses
    by_part later (executed part) earlier parts may x number p uses made =
        let first =
        execution_first names.script (IsNamedMark names) part.note.op part.note.code part.note.size part.calls part.labels may.whole
        may.drawn in
        let look =
        earlier_made later (executed part) earlier parts 0 (silent (Look n part.place (Some part.note))) (omega arith) refl in
        let begins : get_elem? (labels_in names.script n (executed part)) 2
        ≡ some (shows (event.Begin part.note.op part.note.code part.note.size) change.Same first.found) =
        ap (λ xs. get_elem? xs 0) first.is in
        let some_labels : 2 < length (labels_in names.script n (executed part)) =
        (let size = ap length first.is in omega (arith, size)) in
        let begun =
        earlier_made later (executed part) earlier parts 2
        (shows (event.Begin part.note.op part.note.code part.note.size) change.Same first.found) some_labels begins in
        let within = reactor_within names well logs labels logged are in
        let noted =
        seen names logs labels are within names.script.guards (seats names well logs labels logged are) es
        (sound_to names well logs labels logged are es so_far) (labelled_to names well logs labels logged are es so_far) n n
        part.place part.note look in
        let over =
        so.dates.begun part.note.op part.note.code part.note.size _
        (made_shown labels es n (event.Begin part.note.op part.note.code part.note.size) change.Same first.found begun) in
        subst (λ x. is_past (phase_at s.context x) ≡ true)
        (same_act part noted (subst (λ p. IsMade labels es number (allots x n p)) (sym uses) made)) over
      where
        once : (m act place : ℕ) → IsMade labels es m (allots act n place) → (y number : ℕ) →
            IsMade labels es number (allots y n place) → act ≡ y
        once m act place one y number two =
            placed_once labels n names.script.guards (seats names well logs labels logged are) es
            (sound_to names well logs labels logged are es so_far) (labelled_to names well logs labels logged are es so_far) m number
            act y place one two

        same_act : (part : ExecutedPart) →
            IsNoted names logs labels are (reactor_within names well logs labels logged are) es n part.place part.note →
            IsMade labels es number (allots x n part.place) → part.note.op ≡ x
        same_act part (inl is) made = once is.number part.note.op part.place is.placed x number made
        same_act part (inr is) made = once (reactor_lane names.script) part.note.op part.place is.placed x number made
    by_part later (turned part) earlier parts may x number p uses made =
        absurd (let is = may.reactor in omega (arith, is, below))
    by_part later (failed part) earlier parts may x number p uses made = absurd uses
    by_part later (missing place note) earlier parts may x number p uses made = absurd uses

    pub passed_begun : (x number p : ℕ) → p < next_place next.at.earlier → IsMade labels es number (allots x n p) →
        is_past (phase_at s.context x) ≡ true
    passed_begun x number p less made =
        let used = passed names Opener n next.at.earlier earlier_are p less in
        by_part used.later used.part used.earlier used.are used.may x number p used.uses made

  -- on the reactor's lane, where each take that was shown has taken its request
  module _ (reactor : n ≡ reactor_lane names.script)
      (taken : (a : ℕ) (changes : Change) (found : Found) → IsMade labels es n (shows (event.Take a) changes found) →
      was_taken s.reactor a ≡ true) where
    by_start : (later : List Part) (part : TurnPart) (earlier : List Part) → next.at.earlier ≡ later ++ turned part ∷ earlier →
        (start : TurnStart) → part.start ≡ start → (x number p : ℕ) → TakesPlace start part.place p →
        IsMade labels es number (allots x n p) → was_taken s.reactor x ≡ true
    by_start later part earlier parts (passes shown) is x number p uses made = absurd uses
    by_start later part earlier parts (takes note changes) is x number p uses made =
        let labels_are : labels_in names.script n (turned part)
        ≡ start_labels names.script n part.place part.load part.drawn (takes note changes) ++ end_labels part.end =
        ap (λ start. start_labels names.script n part.place part.load part.drawn start ++ end_labels part.end) is in
        let size : 2 < length (labels_in names.script n (turned part)) =
        (let all = ap length labels_are in omega (arith, all)) in
        let look =
        earlier_made later (turned part) earlier parts 0 (silent (Look n part.place (Some note))) (omega (arith, size))
        (ap (λ xs. get_elem? xs 0) labels_are) in
        let took =
        earlier_made later (turned part) earlier parts 2 (shows (event.Take note.op) changes part.drawn) size
        (ap (λ xs. get_elem? xs 2) labels_are) in
        let noted =
        seen names logs labels are (reactor_within names well logs labels logged are) names.script.guards
        (seats names well logs labels logged are) es (sound_to names well logs labels logged are es so_far)
        (labelled_to names well logs labels logged are es so_far) n n part.place note look in
        subst (λ x. was_taken s.reactor x ≡ true)
        (same_request note part.place noted (subst (λ p. IsMade labels es number (allots x n p)) (sym uses) made))
        (taken note.op changes part.drawn took)
      where
        same_request : (note : Note) (place : ℕ) →
            IsNoted names logs labels are (reactor_within names well logs labels logged are) es n place note →
            IsMade labels es number (allots x n place) → note.op ≡ x
        same_request note place (inl is) made =
            placed_once labels n names.script.guards (seats names well logs labels logged are) es
            (sound_to names well logs labels logged are es so_far) (labelled_to names well logs labels logged are es so_far)
            is.number number note.op x place is.placed made
        same_request note place (inr is) made =
            placed_once labels n names.script.guards (seats names well logs labels logged are) es
            (sound_to names well logs labels logged are es so_far) (labelled_to names well logs labels logged are es so_far)
            (reactor_lane names.script) number note.op x place is.placed made

    by_turn : (later : List Part) (part : Part) (earlier : List Part) → next.at.earlier ≡ later ++ part ∷ earlier →
        MayFollow names Opener n earlier part → (x number p : ℕ) → UsesPlace part p →
        IsMade labels es number (allots x n p) → was_taken s.reactor x ≡ true
    by_turn later (idle step) earlier parts may x number p uses made = absurd uses
    by_turn later (executed part) earlier parts may x number p uses made =
        absurd (let strand = may.strand in omega (arith, strand, reactor))
    by_turn later (turned part) earlier parts may x number p uses made =
        by_start later part earlier parts part.start refl x number p uses made
    by_turn later (failed part) earlier parts may x number p uses made = absurd uses
    by_turn later (missing place note) earlier parts may x number p uses made = absurd uses

    pub passed_taken : (x number p : ℕ) → p < next_place next.at.earlier → IsMade labels es number (allots x n p) →
        was_taken s.reactor x ≡ true
    passed_taken x number p less made =
        let used = passed names Opener n next.at.earlier earlier_are p less in
        by_turn used.later used.part used.earlier used.are used.may x number p used.uses made
