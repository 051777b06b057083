-- What was told to the draws of a session's seats.
use Rattle.std.proofs.Common.{◌≡◌, ℕ, suc, List, [], ◌∷◌, refl, sym, ap, subst, ◌∙◌, arith}
use mathlib.Core.Option.{some}
use lib.ListN.{get_elem?}
use Rattle.asio_types.specs.declared.event.Event.TheVariants as event
use Rattle.session_script.specs.WellFormed.{IsWellFormed}
use Rattle.lane_clock.specs.declared.found.Change.{Change}
use Rattle.lane_clock.specs.declared.found.Found.{Found}
use Rattle.lane_clock.specs.declared.step.ClockStep.{ClockStep}
use Rattle.lane_clock.specs.declared.step.ClockStep.TheVariants.{Draw, Load, Place, Put, Look, Join}
use Rattle.lane_clock.specs.Rule.{StepAt}
use Rattle.lane_clock.specs.Steps.{draw_count}
use Rattle.lane_logs.specs.declared.log.LogEntry.{LogEntry}
use Rattle.lane_logs.specs.Drawn.{LogsAreDrawn, entries_drawn}
use Rattle.lane_logs.specs.Labels.{Labelled, allots, entries_in, shows, silent, steps_in}
use Rattle.lane_logs.specs.Logs.{AreLogs, LogsView, entries_of}
use Rattle.lane_logs.specs.Names.{SessionNames}
use Rattle.history_merge.specs.Drawn.{EndsAreAnswered, HistoryIsDrawn, IsAnswered, IsDrawnAt}
use Rattle.history_merge.proofs.HistoryLemmas.{IsPlain}
use Rattle.history_merge.proofs.LabellingLemmas.{AreLabels, are_labels, labels_under, plain_label}
use Rattle.history_merge.proofs.MarkedLemmas.{shown_label}
use Rattle.history_merge.proofs.PartLemmas.{label_of_step, step_of_label}
use Rattle.history_merge.proofs.PositionLemmas.{drawn_by, shown_by_draw}
use Rattle.history_merge.proofs.SaidLemmas.{begin_entry}

-- a step that draws nothing has no entry
none_drawn : (step : ClockStep) (steps : List ClockStep) → draw_count step ≡ 0 →
    entries_drawn steps ≡ entries_drawn (step ∷ steps)
none_drawn (Draw shown changes found) steps none = absurd (omega (arith, none))
none_drawn (Load found) steps none = refl
none_drawn (Place lane place) steps none = refl
none_drawn (Put lane place note) steps none = refl
none_drawn (Look lane place held) steps none = refl
none_drawn (Join counts) steps none = refl

-- the entries of labels are those of the steps that they make
entries_by_steps : (labels : List Labelled) →
    ((i : ℕ) (label : Labelled) → get_elem? labels i ≡ some label → IsPlain label) →
    entries_in labels ≡ entries_drawn (steps_in labels)
entries_by_steps [] plain = refl
entries_by_steps (silent step ∷ labels) plain =
    entries_by_steps labels (λ i. plain (suc i))
    ∙ none_drawn step (steps_in labels) (plain 0 (silent step) refl).0
entries_by_steps (shows shown changes found ∷ labels) plain =
    ap (λ (entries : List LogEntry). record { position = found.clock; event = shown } ∷ entries)
    (entries_by_steps labels (λ i. plain (suc i)))
entries_by_steps (allots act lane place ∷ labels) plain = entries_by_steps labels (λ i. plain (suc i))

module _ (names : SessionNames) (logs : LogsView) (logged : AreLogs names logs) where
  abbrev labels : ℕ → List Labelled
  labels = labels_under names logs logged

  labelled : AreLabels names logs labels
  labelled = are_labels names logs logged

  drawn_entries : (n : ℕ) → entries_of logs n ≡ entries_drawn (logs.lists n)
  drawn_entries n =
      sym (labelled.entries n)
      ∙ (entries_by_steps (labels n) (plain_label names logs labels labelled n) ∙ ap entries_drawn (labelled.steps n))

  -- what has an entry in a log was drawn by its seat
  drawn_at : (seat at : ℕ) (entry : LogEntry) → get_elem? (entries_of logs seat) at ≡ some entry →
      IsDrawnAt logs seat entry.position entry.event
  drawn_at seat at entry there =
      let d =
      drawn_by (labels seat) at entry
      (subst (λ es. get_elem? es at ≡ some entry) (sym (labelled.entries seat)) there) in
      record {
        at = d.at;
        changes = d.changes;
        found = d.found;
        draws =
            subst (λ steps. get_elem? steps d.at ≡ some (Draw entry.event d.changes d.found)) (labelled.steps seat)
            (step_of_label (labels seat) d.at (shows entry.event d.changes d.found) d.label);
        clock = d.position;
      }

  answered : IsWellFormed names.script → (seat at op mark : ℕ) (changes : Change) (found : Found) →
      StepAt logs.lists seat at (Draw (event.End op mark) changes found) → IsAnswered names logs seat op mark
  answered well seat at op mark changes found draws =
      let label =
      label_of_step (labels seat) at (Draw (event.End op mark) changes found)
      (subst (λ steps. get_elem? steps at ≡ some (Draw (event.End op mark) changes found)) (sym (labelled.steps seat)) draws) in
      let is : label.0 ≡ shows (event.End op mark) changes found =
      shown_by_draw label.0 (plain_label names logs labels labelled seat at label.0 label.1) (event.End op mark) changes found
      label.2 in
      let shown =
      shown_label names well logs labels labelled seat at (shows (event.End op mark) changes found) (label.1 ∙ ap some is) in
      let told = shown.marked in
      record {
        code = told.code;
        size = told.size;
        begun = told.begun;
        begins =
            drawn_at seat told.begins.at (begin_entry op told.code told.size told.begun)
            (subst (λ es. get_elem? es told.begins.at ≡ some (begin_entry op told.code told.size told.begun))
            (labelled.entries seat) told.begins.there);
        is = told.is;
      }

pub logs_are_drawn : LogsAreDrawn
logs_are_drawn names logs logged n within = drawn_entries names logs logged n

pub history_is_drawn : HistoryIsDrawn
history_is_drawn names logs events logged merging position shown there =
    let entry = merging.ordered.only position shown there in
    (entry.seat, drawn_at names logs logged entry.seat entry.at (record { position = position; event = shown }) entry.there)

pub ends_are_answered : EndsAreAnswered
ends_are_answered names logs well logged = answered names logs logged well
