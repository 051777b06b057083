-- The positions of the entries of a session's logs are those that were drawn, each once.
use Rattle.std.proofs.Common.{◌≡◌, ◌<◌, ℕ, zero, suc, List, [], ◌∷◌, length, arith, ap, subst, sym, ◌∙◌}
use Rattle.std.specs.List.{slice_index_or}
use lib.ListN.{get_elem?}
use mathlib.Core.Option.{some, some-injective, some-ne-none}
use Rattle.asio_types.specs.declared.event.Event.{Event}
use Rattle.lane_clock.specs.declared.found.Change.{Change}
use Rattle.lane_clock.specs.declared.found.Found.{Found}
use Rattle.lane_clock.specs.declared.step.ClockStep.TheVariants.{Draw, Place}
use Rattle.lane_clock.specs.Laws.{PositionsOnce}
use Rattle.lane_clock.specs.Steps.{draw_count}
use Rattle.lane_logs.specs.declared.log.LogEntry.{LogEntry}
use Rattle.lane_logs.specs.Labels.{Labelled, allots, entries_in, shows, silent, step_of}
use Rattle.lane_logs.specs.Logs.{AreLogs, LogsView, entries_of}
use Rattle.lane_logs.specs.Names.{SessionNames}
use Rattle.history_merge.specs.Ordering.{ArePositioned, IsEntryIn}
use Rattle.history_merge.proofs.HistoryLemmas.{IsPlain}
use Rattle.history_merge.proofs.LabellingLemmas.{AreLabels, are_labels, labels_under, plain_label}
use Rattle.history_merge.proofs.PartLemmas.{label_of_step, step_of_label}

-- the entry of a log is that of a draw
pub record IsDrawnBy (labels : List Labelled) (entry : LogEntry) : Type 0 where
  pub at : ℕ
  pub changes : Change
  pub found : Found
  pub label : get_elem? labels at ≡ some (shows entry.event changes found)
  pub position : found.clock ≡ entry.position

pub drawn_by : (labels : List Labelled) (at : ℕ) (entry : LogEntry) → get_elem? (entries_in labels) at ≡ some entry →
    IsDrawnBy labels entry
drawn_by [] at entry there = absurd (some-ne-none entry (sym there))
drawn_by (silent step ∷ labels) at entry there =
    let d = drawn_by labels at entry there in
    record { at = suc d.at; changes = d.changes; found = d.found; label = d.label; position = d.position }
drawn_by (allots act lane place ∷ labels) at entry there =
    let d = drawn_by labels at entry there in
    record { at = suc d.at; changes = d.changes; found = d.found; label = d.label; position = d.position }
drawn_by (shows shown changes found ∷ labels) zero entry there =
    let is = some-injective (record { position = found.clock; event = shown }) entry there in
    record {
      at = zero;
      changes = changes;
      found = found;
      label = ap (λ (e : LogEntry). some (shows e.event changes found)) is;
      position = ap (λ (e : LogEntry). e.position) is;
    }
drawn_by (shows shown changes found ∷ labels) (suc at) entry there =
    let d = drawn_by labels at entry there in
    record { at = suc d.at; changes = d.changes; found = d.found; label = d.label; position = d.position }

-- and each draw has its entry
entry_of : (labels : List Labelled) (i : ℕ) (shown : Event) (changes : Change) (found : Found) →
    get_elem? labels i ≡ some (shows shown changes found) →
    (at : ℕ) × (get_elem? (entries_in labels) at ≡ some (record { position = found.clock; event = shown }))
entry_of [] i shown changes found there = absurd (some-ne-none (shows shown changes found) (sym there))
entry_of (silent step ∷ labels) zero shown changes found there =
    absurd (let is : silent step ≡ shows shown changes found = some-injective _ _ there in cc)
entry_of (silent step ∷ labels) (suc i) shown changes found there = entry_of labels i shown changes found there
entry_of (allots act lane place ∷ labels) zero shown changes found there =
    absurd (let is : allots act lane place ≡ shows shown changes found = some-injective _ _ there in cc)
entry_of (allots act lane place ∷ labels) (suc i) shown changes found there = entry_of labels i shown changes found there
entry_of (shows other change drawn ∷ labels) zero shown changes found there =
    let is : shows other change drawn ≡ shows shown changes found = some-injective _ _ there in
    let event_is : other ≡ shown = cc in
    let found_is : drawn ≡ found = cc in (
      zero,
      ap (λ e. some (record { position = drawn.clock; event = e })) event_is
          ∙ ap (λ (f : Found). some (record { position = f.clock; event = shown })) found_is,
    )
entry_of (shows other change drawn ∷ labels) (suc i) shown changes found there =
    let e = entry_of labels i shown changes found there in (suc e.0, e.1)

-- a step that draws shows an event
pub shown_by_draw : (label : Labelled) → IsPlain label → (drew : Event) (changes : Change) (found : Found) →
    step_of label ≡ Draw drew changes found → label ≡ shows drew changes found
shown_by_draw (silent step) plain drew changes found is =
    absurd (let none : 0 ≡ draw_count (Draw drew changes found) = sym plain.0 ∙ ap draw_count is in omega (arith, none))
shown_by_draw (allots act lane place) plain drew changes found is =
    absurd (let wrong : Place lane place ≡ Draw drew changes found = is in cc)
shown_by_draw (shows shown change drawn) plain drew changes found is =
    let drawn_is : Draw shown change drawn ≡ Draw drew changes found = is in
    let event_is : shown ≡ drew = cc in
    let change_is : change ≡ changes = cc in
    let found_is : drawn ≡ found = cc in
    λ i. shows (event_is i) (change_is i) (found_is i)

-- what has an entry is a list's
seated : (logs : List (List LogEntry)) (seat at : ℕ) (entry : LogEntry) →
    get_elem? (slice_index_or logs seat []) at ≡ some entry → seat < length logs
seated [] seat at entry there = absurd (some-ne-none entry (sym there))
seated (log ∷ logs) zero at entry there = omega arith
seated (log ∷ logs) (suc seat) at entry there =
    let h : seat < length logs = seated logs seat at entry there in omega arith

module _ (names : SessionNames) (logs : LogsView) (logged : AreLogs names logs)
    (once : PositionsOnce logs.lists logs.last) where
  abbrev labels : ℕ → List Labelled
  labels = labels_under names logs logged

  labelled : AreLabels names logs labels
  labelled = are_labels names logs logged

  draw_of : (entry : LogEntry) (seat at : ℕ) → get_elem? (entries_of logs seat) at ≡ some entry →
      IsDrawnBy (labels seat) entry
  draw_of entry seat at there =
      drawn_by (labels seat) at entry (subst (λ es. get_elem? es at ≡ some entry) (sym (labelled.entries seat)) there)

  step_is : (entry : LogEntry) (seat : ℕ) (d : IsDrawnBy (labels seat) entry) →
      get_elem? (logs.lists seat) d.at ≡ some (Draw entry.event d.changes d.found)
  step_is entry seat d =
      subst (λ steps. get_elem? steps d.at ≡ some (Draw entry.event d.changes d.found)) (labelled.steps seat)
      (step_of_label (labels seat) d.at (shows entry.event d.changes d.found) d.label)

  fits : (entry : LogEntry) → IsEntryIn logs.entries entry → entry.position < logs.last.clock
  fits entry is =
      let d = draw_of entry is.seat is.at is.there in
      omega (arith, once.below is.seat d.at d.changes d.found (entry.event, step_is entry is.seat d), d.position)

  -- two entries at one position are of one draw
  agrees : (entry other : LogEntry) → IsEntryIn logs.entries entry → IsEntryIn logs.entries other →
      entry.position ≡ other.position → entry.event ≡ other.event
  agrees entry other is also same =
      let d = draw_of entry is.seat is.at is.there in
      let e = draw_of other also.seat also.at also.there in
      let at_once = once.once is.seat d.at also.seat e.at d.changes e.changes d.found e.found (entry.event, step_is entry is.seat d)
      (other.event, step_is other also.seat e) (d.position ∙ same ∙ sym e.position) in
      let both : some (shows entry.event d.changes d.found) ≡ some (shows other.event e.changes e.found) =
      sym d.label ∙ (ap (λ n. get_elem? (labels n) d.at) at_once.0
      ∙ (ap (get_elem? (labels also.seat)) at_once.1 ∙ e.label)) in
      let labels_are : shows entry.event d.changes d.found ≡ shows other.event e.changes e.found = some-injective _ _ both in
      cc

  shown_at : (position : ℕ) → position < logs.last.clock →
      (shown : Event) × IsEntryIn logs.entries (record { position = position; event = shown })
  shown_at position less =
      let h = once.each position less in
      let step = label_of_step (labels h.0) h.1 (Draw h.4.0 h.2 h.3)
      (subst (λ steps. get_elem? steps h.1 ≡ some (Draw h.4.0 h.2 h.3)) (sym (labelled.steps h.0)) h.4.1) in
      let draw = shown_by_draw step.0 (plain_label names logs labels labelled h.0 h.1 step.0 step.1) h.4.0 h.2 h.3 step.2 in
      let entry = entry_of (labels h.0) h.1 h.4.0 h.2 h.3 (step.1 ∙ ap some draw) in (
        h.4.0,
        record {
          seat = h.0;
          at = entry.0;
          there =
              subst (λ es. get_elem? es entry.0 ≡ some (record { position = position; event = h.4.0 })) (labelled.entries h.0)
              (subst (λ p. get_elem? (entries_in (labels h.0)) entry.0 ≡ some (record { position = p; event = h.4.0 })) h.5
              entry.1);
        },
      )

  pub positioned : ArePositioned logs.entries logs.last.clock
  positioned = record { fit = fits; agree = agrees; each = shown_at }
