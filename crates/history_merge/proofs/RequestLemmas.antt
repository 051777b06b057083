-- The request that a turn of the reactor takes is the next: those at lesser places were taken.
use Rattle.std.proofs.Common.{◌≡◌, ℕ, ◌+◌, ◌<◌, ◌≤◌, true, List, ◌∷◌, ◌++◌, Some, inl, inr, length, refl, sym, ap, subst, ◌∙◌, arith}
use Rattle.std.proofs.lemmas.List.{append_assoc}
use mathlib.Core.Option.{some}
use lib.ListN.{get_elem?}
use Rattle.asio_types.specs.declared.event.Event.TheVariants as event
use Rattle.session_script.specs.Script.{ScriptModel}
use Rattle.session_script.specs.WellFormed.{IsWellFormed}
use Rattle.history_rules.specs.Order.{was_taken}
use Rattle.history_rules.specs.State.{State}
use Rattle.lane_clock.specs.declared.found.Change.{Change}
use Rattle.lane_clock.specs.declared.note.Note.{Note}
use Rattle.lane_clock.specs.declared.step.ClockStep.{ClockStep}
use Rattle.lane_clock.specs.declared.step.ClockStep.TheVariants.{Look}
use Rattle.lane_clock.specs.History.{ClockEvent, IsSoundHistory, steps_under}
use Rattle.lane_clock.proofs.KnownLemmas.{at_within}
use Rattle.lane_clock.proofs.MomentLemmas.{Tail, sound_tail, tail_more, tail_refl}
use Rattle.lane_map.specs.LaneNumbers.{reactor_lane}
use Rattle.lane_logs.specs.Labels.{Labelled, allots, shows, silent}
use Rattle.lane_logs.specs.LaneLog.{AreParts, MayFollow}
use Rattle.lane_logs.specs.Logs.{AreLogs, LogsView, session_layout}
use Rattle.lane_logs.specs.Names.{SessionNames}
use Rattle.lane_logs.specs.Parts.{Part, TurnPart, TurnStart, end_labels, executed, failed, idle, labels_in, missing, passes, start_labels, takes, turned}
use Rattle.lane_logs.specs.SeatNumbers.{lane_count, opener_seat}
use Rattle.history_merge.proofs.FirstLemmas.{IsNextRequest, next_request}
use Rattle.history_merge.proofs.HistoryLemmas.{AreLabelled}
use Rattle.history_merge.proofs.LabellingLemmas.{AreLabels, lane_are}
use Rattle.history_merge.proofs.NoteLemmas.{IsNoted, seen}
use Rattle.history_merge.proofs.PartLemmas.{Follow, all_made, follow_from}
use Rattle.history_merge.proofs.PassedLemmas.{IsPassedIn, TakesPlace, UsesPlace, passed}
use Rattle.history_merge.proofs.SinceLemmas.{labelled_at}
use Rattle.history_merge.proofs.SoLemmas.{IsSo}
use Rattle.history_merge.proofs.SoFarLemmas.{state_at}
use Rattle.history_merge.proofs.StagedLemmas.{reactor_within}
use Rattle.history_merge.proofs.TakenShownLemmas.{taken_shown}
use Rattle.history_merge.proofs.TimeLemmas.{IsMade, made_of, placed_once}
use Rattle.history_merge.proofs.TurnAtLemmas.{IsTurnAt, turn_may}
use Rattle.history_merge.proofs.UsedLemmas.{part_stands}

module _ (names : SessionNames) (well : IsWellFormed names.script) (logs : LogsView) (labels : ℕ → List Labelled)
    (logged : AreLogs names logs) (are : AreLabels names logs labels) (e : ClockEvent) (es : List ClockEvent)
    (tail : Tail (e ∷ es) logged.closed.history) (within : e.by < lane_count names.script)
    (t : IsTurnAt names logs labels logged are e es tail within)
    (so : (a : List ClockEvent) → Tail a es → IsSo names logs labels are a) (note : Note) (changes : Change)
    (start : t.part.start ≡ takes note changes) (some_before : 1 ≤ length t.before) where
  abbrev script : ScriptModel
  script = names.script

  abbrev r : ℕ
  r = reactor_lane script

  abbrev opener : List ClockStep
  opener = logs.lists (opener_seat script)

  abbrev makes : Part → List Labelled
  makes = labels_in script e.by

  abbrev s : State
  s = state_at script names.told labels es

  abbrev so_now : IsSo names logs labels are es
  so_now = so es (tail_refl es)

  reactor : e.by ≡ r
  reactor = (turn_may names logs labels logged are e es tail within t).reactor

  abbrev inside : r < lane_count script
  inside = reactor_within names well logs labels logged are

  abbrev history : Tail es logged.closed.history
  history = tail_more es e logged.closed.history tail

  labelled : AreLabelled labels es
  labelled = labelled_at names logs labels logged are es history

  sound : IsSoundHistory (session_layout script).guards (session_layout script).seats es
  sound =
      sound_tail (session_layout script).guards (session_layout script).seats es logged.closed.history history logged.closed.sound

  -- what the reactor's lane saw was put by a call, or by a completion
  looked : (place : ℕ) (other : Note) (i : ℕ) → get_elem? (labels e.by) i ≡ some (silent (Look e.by place (Some other))) →
      i < length (steps_under e.by es) → IsNoted names logs labels are inside es e.by place other
  looked place other i at less =
      let made = made_of labels es labelled e.by i (silent (Look e.by place (Some other))) at less in
      seen names logs labels are inside (session_layout script).guards (session_layout script).seats es sound labelled e.by e.by
      place other made.0

  -- the labels of an earlier part, or of this one, that takes a request
  module _ (later : List Part) (part : TurnPart) (earlier : List Part) (other : Note) (changed : Change)
      (same : (are.lanes e.by within).parts ≡ later ++ turned part ∷ earlier) (starts : part.start ≡ takes other changed)
    where
      made_is : makes (turned part) ≡ start_labels script e.by part.place part.load part.drawn (takes other changed)
          ++ end_labels part.end
      made_is =
          ap (λ start. start_labels script e.by part.place part.load part.drawn start ++ end_labels part.end) starts

      label_at : (j : ℕ) (label : Labelled) → get_elem? (makes (turned part)) j ≡ some label →
          get_elem? (labels e.by) (length (all_made Part makes earlier) + j) ≡ some label
      label_at j label there =
          ap (λ xs. get_elem? xs (length (all_made Part makes earlier) + j))
          ((are.lanes e.by within).are ∙ ap (all_made Part makes) same)
          ∙ part_stands makes later (turned part) earlier j label there

      look_here : get_elem? (makes (turned part)) 0 ≡ some (silent (Look e.by part.place (Some other)))
      look_here = ap (λ xs. get_elem? xs 0) made_is

      take_here : get_elem? (makes (turned part)) 2 ≡ some (shows (event.Take other.op) changed part.drawn)
      take_here = ap (λ xs. get_elem? xs 2) made_is

  -- the request's note
  own_note : IsNoted names logs labels are inside es e.by t.part.place note
  own_note =
      let index = t.index in
      let some = some_before in
      looked t.part.place note (length (all_made Part makes t.earlier) + 0)
      (label_at t.later t.part t.earlier note changes t.parts_are start 0 (silent (Look e.by t.part.place (Some note)))
      (look_here t.later t.part t.earlier note changes t.parts_are start)) (omega (arith, index, some))

  are_earlier : AreParts names opener e.by t.earlier
  are_earlier =
      lane_are names opener e.by t.earlier
      (follow_from Part makes (MayFollow names opener e.by) t.later (turned t.part ∷ t.earlier)
      (subst (Follow Part makes (MayFollow names opener e.by)) t.parts_are (are.lanes e.by within).follow)).0

  -- a request whose place on the reactor's lane is less was taken
  module _ (m other q : ℕ) (made : IsMade labels es m (allots other e.by q)) (less : q < t.part.place) where
    taken_by : (later : List Part) (part : TurnPart) (earlier : List Part) (it : Note) (changed : Change) →
        t.earlier ≡ later ++ turned part ∷ earlier → part.start ≡ takes it changed → part.place ≡ q →
        was_taken s.reactor other ≡ true
    taken_by later part earlier it changed is starts at =
        let all : (are.lanes e.by within).parts ≡ (t.later ++ turned t.part ∷ later) ++ turned part ∷ earlier =
        t.parts_are
        ∙ (ap (λ xs. t.later ++ turned t.part ∷ xs) is
        ∙ sym (append_assoc t.later (turned t.part ∷ later) (turned part ∷ earlier))) in
        let fronts : List Part = t.later ++ turned t.part ∷ later in
        let k : ℕ = length (all_made Part makes earlier) in
        let look : Labelled = silent (Look e.by part.place (Some it)) in
        let take : Labelled = shows (event.Take it.op) changed part.drawn in
        let look_there = look_here fronts part earlier it changed all starts in
        let take_there = take_here fronts part earlier it changed all starts in
        let within_earlier : k + 2 < length (all_made Part makes t.earlier) =
        at_within (all_made Part makes t.earlier) (k + 2) take
        (ap (λ xs. get_elem? (all_made Part makes xs) (k + 2)) is
        ∙ part_stands makes later (turned part) earlier 2 take take_there) in
        let index = t.index in
        let noted =
        looked part.place it (k + 0) (label_at fronts part earlier it changed all starts 0 look look_there)
        (omega (arith, index, within_earlier)) in
        let own = placed_of_note part.place it noted in
        let same : other ≡ it.op =
        placed_once labels e.by (session_layout script).guards (session_layout script).seats es sound labelled m own.0 other
        it.op q made (subst (λ p. IsMade labels es own.0 (allots it.op e.by p)) at own.1) in
        let shown =
        made_of labels es labelled e.by (k + 2) take (label_at fronts part earlier it changed all starts 2 take take_there)
        (omega (arith, index, within_earlier)) in
        let taken =
        taken_shown names well logs labels logged are es so shown.0.e shown.0.older shown.0.tail it.op changed part.drawn
        shown.0.is in
        ap (was_taken s.reactor) same ∙ taken
      where
        placed_of_note : (place : ℕ) (it : Note) → IsNoted names logs labels are inside es e.by place it →
            (k : ℕ) × IsMade labels es k (allots it.op e.by place)
        placed_of_note place it (inl noted) = (noted.number, noted.placed)
        placed_of_note place it (inr noted) = (r, noted.placed)

    by_start : (pass : IsPassedIn names opener e.by t.earlier q) (part : TurnPart) → pass.part ≡ turned part →
        (start : TurnStart) → part.start ≡ start → TakesPlace start part.place q → was_taken s.reactor other ≡ true
    by_start pass part same (takes it changed) starts uses =
        taken_by pass.later part pass.earlier it changed (pass.are ∙ ap (λ p. pass.later ++ p ∷ pass.earlier) same) starts uses
    by_start pass part same (passes shown) starts uses = absurd uses

    by_part : (pass : IsPassedIn names opener e.by t.earlier q) (part : Part) → pass.part ≡ part →
        MayFollow names opener e.by pass.earlier part → UsesPlace part q → was_taken s.reactor other ≡ true
    by_part pass (idle step) same may uses = absurd uses
    by_part pass (executed part) same may uses =
        let strand = may.strand in let here = reactor in absurd (omega (arith, strand, here))
    by_part pass (turned part) same may uses = by_start pass part same part.start refl uses
    by_part pass (failed part) same may uses = absurd uses
    by_part pass (missing place it) same may uses = absurd uses

    taken_before : was_taken s.reactor other ≡ true
    taken_before =
        let next = (turn_may names logs labels logged are e es tail within t).next in
        let pass = passed names opener e.by t.earlier are_earlier q (omega (arith, less, next)) in
        by_part pass pass.part refl pass.may pass.uses

  -- so it is the next request
  pub request_next : IsNextRequest names well logs labels logged are es history so_now note.op
  request_next =
      next_request names well logs labels logged are es history so_now note.op t.part.place note refl
      (subst (λ lane. IsNoted names logs labels are inside es lane t.part.place note) reactor own_note)
      (λ x number p less made.
      taken_before number x p (subst (λ lane. IsMade labels es number (allots x lane p)) (sym reactor) made) less)
