-- A part of a lane that draws lies where a round is open, and its load found the stops that the round's restart found.
use Rattle.std.proofs.Common.{◌≡◌, ℕ, ◌+◌, ◌-◌, ◌<◌, ◌≤◌, Bool, List, [], ◌∷◌, ◌++◌, length, take, refl, sym, ap, subst, ◌∙◌, arith, length-append}
use Rattle.std.proofs.Math.Seq.{take-append_seam}
use Rattle.std.proofs.lemmas.List.{append_assoc, length-map}
use mathlib.Core.Option.{some}
use lib.ListN.{get_elem?}
use Rattle.asio_types.specs.declared.event.Event.{Event}
use Rattle.lane_clock.specs.declared.found.Found.{Found}
use Rattle.lane_clock.specs.declared.step.ClockStep.{ClockStep}
use Rattle.lane_clock.specs.declared.step.ClockStep.TheVariants.{Draw, Load, Place, Put, Look, Join}
use Rattle.lane_clock.specs.History.{ClockEvent, steps_under}
use Rattle.lane_clock.specs.Rule.{StepAt, by_load}
use Rattle.lane_clock.proofs.KnownLemmas.{at_within}
use Rattle.lane_clock.proofs.MomentLemmas.{Tail, tail_more}
use Rattle.lane_logs.specs.Knowing.{known_steps}
use Rattle.lane_logs.specs.Labels.{Labelled, shows, silent, step_of, steps_in}
use Rattle.lane_logs.specs.LaneLog.{FoundGoing, MayFollow}
use Rattle.lane_logs.specs.Logs.{AreLogs, LogsView, session_layout}
use Rattle.lane_logs.specs.Names.{SessionNames}
use Rattle.lane_logs.specs.Parts.{ExecutedPart, FailedPart, Part, TurnPart, TurnStart, end_labels, executed, failed, fault_label, labels_in, labels_of, looks_empty, looks_full, passes, start_labels, takes, turned}
use Rattle.lane_logs.specs.SeatNumbers.{lane_count, opener_seat}
use Rattle.lane_logs.specs.Stand.{stand_of}
use Rattle.lane_logs.proofs.LabelLemmas.{steps-append}
use Rattle.history_merge.proofs.CutLemmas.{IsRoundOf, known_stand, open_base, open_opened}
use Rattle.history_merge.proofs.EachLabelLemmas.{HoldsOf, calls_each, empty_each, end_each, is_of_execution, is_of_turn}
use Rattle.history_merge.proofs.HistoryLemmas.{label_of}
use Rattle.history_merge.proofs.LabellingLemmas.{AreLabels}
use Rattle.history_merge.proofs.PartLemmas.{Every, IsMadeAt, all_made, at_left, at_right, at_seam, every-append, every_at, label_of_step, lane_made, made-append, made_up_to, step_of_label}

-- the step takes in nothing of others
abbrev pub IsNoJoin : ClockStep → Type 0
IsNoJoin (Draw shown changes found) = Unit {0}
IsNoJoin (Load found) = Unit {0}
IsNoJoin (Place lane place) = Unit {0}
IsNoJoin (Put lane place note) = Unit {0}
IsNoJoin (Look lane place held) = Unit {0}
IsNoJoin (Join counts) = ⊥

abbrev pub IsAlone : Labelled → Type 0
IsAlone label = IsNoJoin (step_of label)

holds_alone : (test : Event → Bool) → HoldsOf test IsAlone
holds_alone test = record {
  events = λ shown is changes found. tt;
  places = λ act lane place. tt;
  puts = λ lane place note. tt;
}

-- A part behind earlier ones that loads and draws: nothing is taken in by it, and its load found no stop of the round
pub record IsDrawing (names : SessionNames) (opener : List ClockStep) (lane : ℕ) (earlier : List Part)
    (made : List Labelled) : Type 0 where
  pub load : Found
  pub front : List Labelled
  pub back : List Labelled
  pub is : made ≡ front ++ silent (Load load) ∷ back
  pub going : FoundGoing names opener lane earlier load
  pub alone : Every IsAlone made

module _ (names : SessionNames) (opener : List ClockStep) (lane : ℕ) (earlier : List Part) where
  -- an execution, a turn and a failure draw
  pub executed_draws : (part : ExecutedPart) → MayFollow names opener lane earlier (executed part) →
      IsDrawing names opener lane earlier (labels_in names.script lane (executed part))
  executed_draws part may = record {
    load = part.load;
    front = looks_full lane part.place part.note;
    back = part.labels;
    is = refl;
    going = may.going;
    alone = (tt, (tt, calls_each IsAlone names.script (holds_alone is_of_execution) may.drawn));
  }

  turned_by : (part : TurnPart) (start : TurnStart) (end : List Labelled) → FoundGoing names opener lane earlier part.load →
      Every IsAlone end →
      IsDrawing names opener lane earlier (start_labels names.script lane part.place part.load part.drawn start ++ end)
  turned_by part (takes note changes) end going alone = record {
    load = part.load;
    front = looks_full lane part.place note;
    back = shows _ changes part.drawn ∷ end;
    is = refl;
    going = going;
    alone = (tt, (tt, (tt, alone)));
  }
  turned_by part (passes shown) end going alone = record {
    load = part.load;
    front = looks_empty names.script lane part.place;
    back = shows shown _ part.drawn ∷ end;
    is = append_assoc (looks_empty names.script lane part.place) (silent (Load part.load) ∷ shows shown _ part.drawn ∷ []) end;
    going = going;
    alone =
        every-append IsAlone
        (looks_empty names.script lane part.place ++ silent (Load part.load) ∷ shows shown _ part.drawn ∷ []) end
        (every-append IsAlone (looks_empty names.script lane part.place) _ (empty_each IsAlone names.script lane part.place tt)
        (tt, (tt, tt))) alone;
  }

  pub turned_draws : (part : TurnPart) → MayFollow names opener lane earlier (turned part) →
      IsDrawing names opener lane earlier (labels_in names.script lane (turned part))
  turned_draws part may =
      turned_by part part.start (end_labels part.end) may.going
      (end_each IsAlone names.script (holds_alone is_of_turn) names.told _ part.end may.ends)

  pub failed_draws : (part : FailedPart) → MayFollow names opener lane earlier (failed part) →
      IsDrawing names opener lane earlier (labels_in names.script lane (failed part))
  failed_draws part may = record {
    load = part.load;
    front = looks_empty names.script lane part.place;
    back = fault_label part.drawn ∷ [];
    is = refl;
    going = may.going;
    alone =
        every-append IsAlone (looks_empty names.script lane part.place) _ (empty_each IsAlone names.script lane part.place tt)
        (tt, (tt, tt));
  }

module _ (names : SessionNames) (logs : LogsView) (labels : ℕ → List Labelled) (logged : AreLogs names logs)
    (are : AreLabels names logs labels) (e : ClockEvent) (es : List ClockEvent)
    (tail : Tail (e ∷ es) logged.closed.history) (within : e.by < lane_count names.script) where
  abbrev pub opener : List ClockStep
  opener = logs.lists (opener_seat names.script)

  abbrev pub parts : List Part
  parts = (are.lanes e.by within).parts

  abbrev pub makes : Part → List Labelled
  makes = labels_in names.script e.by

  -- the step stands in such a part
  module _ (at : IsMadeAt Part makes parts (length (steps_under e.by es)) (label_of labels es e))
      (draws : IsDrawing names opener e.by at.earlier (makes at.part)) where
    abbrev pub since : ℕ
    since = length (all_made Part makes at.earlier)

    pub split : (rest : List Labelled)
        × (labels e.by ≡ all_made Part makes at.earlier ++ (at.before ++ label_of labels es e ∷ rest))
    split =
        let up = made_up_to Part makes parts (length (steps_under e.by es)) (label_of labels es e) at in (
          up.0,
          (are.lanes e.by within).are
              ∙ (up.1 ∙ append_assoc (all_made Part makes at.earlier) at.before (label_of labels es e ∷ up.0)),
        )

    -- what it knew of the opener
    earlier_steps : take since (logs.lists e.by) ≡ steps_in (all_made Part makes at.earlier)
    earlier_steps =
        let xs : List Labelled = all_made Part makes at.earlier in
        ap (take since)
        (sym (are.steps e.by)
        ∙ (ap steps_in split.1 ∙ steps-append xs (at.before ++ label_of labels es e ∷ split.0)))
        ∙ (ap (λ n. take n (steps_in xs ++ steps_in (at.before ++ label_of labels es e ∷ split.0)))
        (sym (length-map xs step_of))
        ∙ take-append_seam (steps_in xs) (steps_in (at.before ++ label_of labels es e ∷ split.0)))

    pub known : known_steps opener (opener_seat names.script) (take since (logs.lists e.by))
        ≡ known_steps opener (opener_seat names.script) (steps_in (labels_of names.script e.by at.earlier))
    known =
        ap (known_steps opener (opener_seat names.script))
        (earlier_steps ∙ ap steps_in (sym (lane_made names.script e.by at.earlier)))

    -- its load was a step of the clock
    pub load_at : StepAt logs.lists e.by (since + length draws.front) (Load draws.load)
    load_at =
        let more = made-append Part makes at.later (at.part ∷ at.earlier) in
        let here : get_elem? (makes at.part) (length draws.front) ≡ some (silent (Load draws.load)) =
        subst (λ xs. get_elem? xs (length draws.front) ≡ some (silent (Load draws.load))) (sym draws.is)
        (at_seam draws.front (silent (Load draws.load)) draws.back) in
        let there : get_elem? (all_made Part makes at.earlier ++ makes at.part) (since + length draws.front)
        ≡ some (silent (Load draws.load)) =
        at_right (all_made Part makes at.earlier) (makes at.part) (since + length draws.front) (length draws.front) refl ∙ here in
        let whole : get_elem? (labels e.by) (since + length draws.front) ≡ some (silent (Load draws.load)) =
        subst (λ xs. get_elem? xs (since + length draws.front) ≡ some (silent (Load draws.load)))
        (sym ((are.lanes e.by within).are ∙ (ap (all_made Part makes) at.parts_are ∙ more.1)))
        (at_left (all_made Part makes at.earlier ++ makes at.part) more.0 (since + length draws.front)
        (at_within (all_made Part makes at.earlier ++ makes at.part) (since + length draws.front) _ there) ∙ there) in
        subst (λ xs. get_elem? xs (since + length draws.front) ≡ some (Load draws.load)) (are.steps e.by)
        (step_of_label (labels e.by) (since + length draws.front) (silent (Load draws.load)) whole)

    -- nothing was taken in since
    pub quiet : (i : ℕ) (counts : List ℕ) → since ≤ i → i ≤ length (steps_under e.by es) →
        StepAt logs.lists e.by i (Join counts) → ⊥
    quiet i counts from to step =
        let label : Labelled = label_of labels es e in
        let found =
        label_of_step (labels e.by) i (Join counts)
        (subst (λ xs. get_elem? xs i ≡ some (Join counts)) (sym (are.steps e.by)) step) in
        let k : ℕ = i - since in
        let before : List Labelled = at.before ++ label ∷ [] in
        let size : length before ≡ length at.before + 1 = length-append at.before (label ∷ []) in
        let less : k < length before = omega (arith, at.index, from, to, size) in
        let behind : get_elem? (at.before ++ label ∷ split.0) k ≡ some found.0 =
        sym (at_right (all_made Part makes at.earlier) (at.before ++ label ∷ split.0) i k (omega (arith, from)))
        ∙ (sym (ap (λ xs. get_elem? xs i) split.1) ∙ found.1) in
        let first : get_elem? before k ≡ some found.0 =
        sym (at_left before split.0 k less)
        ∙ (ap (λ xs. get_elem? xs k) (append_assoc at.before (label ∷ []) split.0) ∙ behind) in
        let own : get_elem? (makes at.part) k ≡ some found.0 =
        ap (λ xs. get_elem? xs k) (at.labels_are ∙ sym (append_assoc at.before (label ∷ []) at.after))
        ∙ (at_left before at.after k less ∙ first) in
        subst IsNoJoin found.2 (every_at IsAlone (makes at.part) draws.alone k found.0 own)

    -- a round was open by what it knew, whose restart found the stops that the load found
    pub round_known : IsRoundOf names.script
        (stand_of names.script
        (known_steps opener (opener_seat names.script) (steps_in (labels_of names.script e.by at.earlier)))) draws.load.stops
    round_known =
        let parted = logged.closed.rule.changes_add_up.parted e.by (since + length draws.front) draws.load
        (Load draws.load, load_at, by_load draws.load) in
        open_base names.script
        (known_steps opener (opener_seat names.script) (steps_in (labels_of names.script e.by at.earlier))) draws.load.stops
        parted.2 draws.going

    pub opened_known :
        (stand_of names.script
        (known_steps opener (opener_seat names.script) (take since (logs.lists e.by)))).opening ≡ 0
    opened_known =
        ap (λ steps. (stand_of names.script steps).opening) known
        ∙ open_opened names.script
        (stand_of names.script
        (known_steps opener (opener_seat names.script) (steps_in (labels_of names.script e.by at.earlier)))) round_known.round

    -- and so it is
    pub stand_at : stand_of names.script (steps_under (opener_seat names.script) es)
        ≡ stand_of names.script
        (known_steps opener (opener_seat names.script) (steps_in (labels_of names.script e.by at.earlier)))
    stand_at =
        known_stand names.script logs.lists (session_layout names.script) logs.last logged.closed logged.cuts es
        (tail_more es e logged.closed.history tail) e.by since (omega (arith, within)) (omega (arith, at.index)) quiet opened_known
        ∙ ap (stand_of names.script) known

    pub going_at : IsRoundOf names.script (stand_of names.script (steps_under (opener_seat names.script) es)) draws.load.stops
    going_at = subst (λ stand. IsRoundOf names.script stand draws.load.stops) (sym stand_at) round_known
