-- The calls of `open` are the first events, and each is legal where the opener draws it.
use Rattle.std.proofs.Common.{◌≡◌, ℕ, suc, ◌+◌, Bool, false, List, [], ◌∷◌, ◌++◌, Some, length, refl, sym, ap, subst, ◌∙◌, arith, length-append}
use Rattle.std.specs.Prelude.{slice_get}
use Rattle.std.proofs.lemmas.List.{length-map, map-append}
use mathlib.Core.Option.{some}
use lib.ListN.{get_elem?}
use Rattle.asio_types.specs.declared.event.Event.{Event}
use Rattle.session_script.specs.Lanes.{is_inline}
use Rattle.session_script.specs.Script.{ScriptModel, opening_of}
use Rattle.session_script.specs.WellFormed.{IsWellFormed}
use Rattle.history_rules.specs.Legal.{IsLegalFrom, MayHappen, after_event, state_from, state_of}
use Rattle.history_rules.specs.State.{State, first_state}
use Rattle.history_rules.specs.declared.phase.Progress.{Progress}
use Rattle.strand_core.specs.Execution.{AnyMark, AreCalls, events_of, inside, no_act, outside}
use Rattle.strand_core.specs.declared.posted.Posted.{Posted}
use Rattle.strand_core.specs.declared.posted.Posted.TheVariants as posted
use Rattle.lane_clock.specs.declared.found.Change.{Change}
use Rattle.lane_clock.specs.declared.found.Found.{Found}
use Rattle.lane_clock.specs.History.{ClockEvent, steps_under}
use Rattle.lane_clock.proofs.MomentLemmas.{Tail, tail_more}
use Rattle.lane_logs.specs.declared.log.LogEntry.{LogEntry}
use Rattle.lane_logs.specs.Labels.{Labelled, entries_in, events_in, shows, steps_in}
use Rattle.lane_logs.specs.Logs.{AreLogs, LogsView}
use Rattle.lane_logs.specs.Names.{SessionNames}
use Rattle.lane_logs.specs.OpenerLog.{IsOpenedPart, MayFollowOpened, OpenerPart, labels_of_opener, opened, opener_labels}
use Rattle.lane_logs.specs.Calls.{called_each}
use Rattle.lane_logs.specs.SeatNumbers.{opener_seat}
use Rattle.lane_logs.specs.Stand.{Stand, first_stand, stand_of}
use Rattle.lane_logs.proofs.OpeningLemmas.{called_sum, opening_outside}
use Rattle.lane_logs.proofs.LabelLemmas.{entries-append, steps-append}
use Rattle.lane_logs.proofs.StandLemmas.{opening_passed}
use Rattle.execution_laws.specs.Opened.{IsLegalOpening}
use Rattle.execution_laws.proofs.OpenedLemmas.{is_legal_opening}
use Rattle.history_merge.proofs.AlikeLemmas.{never}
use Rattle.history_merge.proofs.DrawnLemmas.{drawn_shown}
use Rattle.history_merge.proofs.HistoryLemmas.{AreLabelled, IsPlain, label_of, shown_by, shown_in}
use Rattle.history_merge.proofs.LabellingLemmas.{AreLabels, plain_label}
use Rattle.history_merge.proofs.OpenerLemmas.{only_opener, stand_at}
use Rattle.history_merge.proofs.OpenerPartLemmas.{draws_entries, opener_at, opener_follows, opener_so_far, opener_steps_are}
use Rattle.history_merge.proofs.PartLemmas.{Every, made_up_to, opener_made}
use Rattle.history_merge.proofs.SoFarLemmas.{state_at}

-- what may happen within a legal history
pub legal_at : (script : ScriptModel) (told : Bool) (s : State) (xs : List Event) (x : Event) (ys : List Event) →
    IsLegalFrom script told s (xs ++ x ∷ ys) → MayHappen script told (state_from script told s xs) x
legal_at script told s [] x ys legal = legal.0
legal_at script told s (y ∷ xs) x ys legal = legal_at script told (after_event script told s y) xs x ys legal.1

-- nothing that `open` calls executes inside its call
outside_each : (script : ScriptModel) {acts : List ℕ} {calls : List Posted} → AreCalls script AnyMark acts calls →
    ((i act : ℕ) → slice_get acts i ≡ Some act → is_inline script act ≡ false) → calls ≡ called_each acts
outside_each script no_act each = refl
outside_each script (outside {act} {acts} {calls} isnt more) each =
    ap (λ calls. posted.Call act ∷ posted.Back act ∷ calls) (outside_each script more (λ i n at. each (suc i) n at))
outside_each script (inside {act} {begun} {mark} {acts} {body} {calls} is marked inner more) each =
    absurd (never (is_inline script act) (each 0 act refl) is)

every_from : (P : Labelled → Type 0) (xs : List Labelled) →
    ((i : ℕ) (x : Labelled) → get_elem? xs i ≡ some x → P x) → Every P xs
every_from P [] each = tt
every_from P (x ∷ xs) each = (each 0 x refl, every_from P xs (λ i y at. each (suc i) y at))

every_first : (P : Labelled → Type 0) (xs ys : List Labelled) → Every P (xs ++ ys) → Every P xs
every_first P [] ys all = tt
every_first P (x ∷ xs) ys all = (all.0, every_first P xs ys all.1)

entries_size : (labels : List Labelled) → length (events_in (entries_in labels)) ≡ length (entries_in labels)
entries_size labels = length-map (entries_in labels) (λ (entry : LogEntry). entry.event)

pub events-entries : (xs ys : List Labelled) →
    events_in (entries_in (xs ++ ys)) ≡ events_in (entries_in xs) ++ events_in (entries_in ys)
events-entries xs ys =
    ap events_in (entries-append xs ys)
    ∙ map-append (λ (entry : LogEntry). entry.event) (entries_in xs) (entries_in ys)

module _ (names : SessionNames) (well : IsWellFormed names.script) (logs : LogsView) (labels : ℕ → List Labelled)
    (logged : AreLogs names logs) (are : AreLabels names logs labels) (e : ClockEvent) (es : List ClockEvent)
    (tail : Tail (e ∷ es) logged.closed.history) (all : AreLabelled labels (e ∷ es))
    (by : e.by ≡ opener_seat names.script) (shown : Event) (changes : Change) (found : Found)
    (is : label_of labels es e ≡ shows shown changes found) where
  abbrev script : ScriptModel
  script = names.script

  abbrev opener : ℕ
  opener = opener_seat names.script

  abbrev earlier : List OpenerPart
  earlier = (opener_at names logs labels logged are e es tail all.1 by).earlier

  abbrev before : List Labelled
  before = (opener_at names logs labels logged are e es tail all.1 by).before

  abbrev after : List Labelled
  after = (opener_at names logs labels logged are e es tail all.1 by).after

  module _ (calls : List Posted) (made : List Labelled)
      (at : (opener_at names logs labels logged are e es tail all.1 by).part ≡ opened calls made) where
    part : IsOpenedPart names.script logs.lists earlier calls made
    part =
        subst (MayFollowOpened names.script logs.lists earlier) at
        (opener_follows names logs labels logged are e es tail all.1 by)

    made_is : made ≡ before ++ shows shown changes found ∷ after
    made_is =
        sym (ap opener_labels at)
        ∙ ((opener_at names logs labels logged are e es tail all.1 by).labels_are
        ∙ ap (λ label. before ++ label ∷ after) is)

    -- how many calls are still to come
    abbrev pub left : ℕ
    left = length (entries_in after)

    plain_first : Every IsPlain (labels_of_opener earlier ++ before)
    plain_first =
        let up =
        made_up_to OpenerPart opener_labels are.opener.parts (length (steps_under opener es)) (label_of labels es e)
        (opener_at names logs labels logged are e es tail all.1 by) in
        let whole : labels opener ≡ (labels_of_opener earlier ++ before) ++ label_of labels es e ∷ up.0 =
        are.opener.are
        ∙ (up.1 ∙ ap (λ xs. (xs ++ before) ++ label_of labels es e ∷ up.0) (sym (opener_made earlier))) in
        every_first IsPlain (labels_of_opener earlier ++ before) (label_of labels es e ∷ up.0)
        (subst (Every IsPlain) whole
        (every_from IsPlain (labels opener) (λ i label at. plain_label names logs labels are opener i label at)))

    count : length (entries_in made) ≡ (first_stand names.script).opening
    count =
        sym (entries_size made)
        ∙ (ap length (drawn_shown script part.drawn)
        ∙ (ap (λ calls. length (events_of script calls))
        (outside_each script part.acts (λ i act at. opening_outside script i act at))
        ∙ called_sum script (opening_of script)))

    parts_size : length (entries_in made) ≡ length (entries_in before) + suc left
    parts_size =
        ap (λ labels. length (entries_in labels)) made_is
        ∙ (ap length (entries-append before (shows shown changes found ∷ after))
        ∙ length-append (entries_in before) (entries_in (shows shown changes found ∷ after)))

    pub opened_stand : stand_at names.script opener es ≡ record (first_stand names.script) { opening = suc left }
    opened_stand =
        let steps : steps_under opener es ≡ steps_in (labels_of_opener earlier ++ before) =
        opener_steps_are names logs labels logged are e es tail all.1 by
        ∙ sym (steps-append (labels_of_opener earlier) before) in
        let draws = draws_entries (labels_of_opener earlier ++ before) plain_first in
        let size : length (entries_in (labels_of_opener earlier ++ before))
        ≡ length (entries_in (labels_of_opener earlier)) + length (entries_in before) =
        ap length (entries-append (labels_of_opener earlier) before)
        ∙ length-append (entries_in (labels_of_opener earlier)) (entries_in before) in
        let none : length (entries_in (labels_of_opener earlier)) ≡ 0 = ap length part.first in
        ap (stand_of names.script) steps
        ∙ opening_passed names.script (steps_in (labels_of_opener earlier ++ before)) (first_stand names.script) (suc left)
        (omega (arith, count, parts_size, draws, size, none))

    still_left : (stand_at names.script opener es).opening ≡ 0 → ⊥
    still_left none =
        let some_left = ap (λ (s : Stand). s.opening) opened_stand in
        let wrong : suc left ≡ 0 = sym some_left ∙ none in omega (arith, wrong)

    -- what was shown is what `open` has called so far
    pub shown_first : shown_in labels es ≡ events_in (entries_in before)
    shown_first =
        only_opener names logs labels logged are es (tail_more es e logged.closed.history tail) all.0 still_left
        ∙ (ap (λ made. events_in (entries_in made)) (opener_so_far names logs labels logged are e es tail all.1 by)
        ∙ (events-entries (labels_of_opener earlier) before
        ∙ ap (λ entries. events_in entries ++ events_in (entries_in before)) part.first))

    pub open_events : events_of names.script calls ≡ shown_in labels es ++ shown ∷ events_in (entries_in after)
    open_events =
        sym (drawn_shown script part.drawn)
        ∙ (ap (λ labels. events_in (entries_in labels)) made_is
        ∙ (events-entries before (shows shown changes found ∷ after)
        ∙ ap (λ events. events ++ shown ∷ events_in (entries_in after)) (sym shown_first)))

    legal : IsLegalOpening names.script names.told calls
    legal = is_legal_opening names.script names.told calls well part.acts

    -- so it may happen
    pub opened_may : MayHappen names.script names.told (state_at names.script names.told labels es) shown
    opened_may =
        legal_at names.script names.told (first_state names.script names.told) (shown_in labels es) shown
        (events_in (entries_in after))
        (subst (IsLegalFrom names.script names.told (first_state names.script names.told)) open_events legal.legal)

    -- and behind the last of them all calls of `open` are back
    pub opened_back : left ≡ 0 →
        (state_at names.script names.told labels (e ∷ es)).context.opening.back ≡ length (opening_of names.script)
    opened_back none =
        let empty : events_in (entries_in after) ≡ [] = no_events (entries_in after) none in
        let whole : shown_in labels (e ∷ es) ≡ events_of names.script calls =
        ap (λ label. shown_in labels es ++ shown_by label) is
        ∙ sym (open_events ∙ ap (λ events. shown_in labels es ++ shown ∷ events) empty) in
        ap (λ events. (state_of names.script names.told events).context.opening.back) whole
        ∙ (ap (λ (s : State). s.context.opening.back) legal.is ∙ ap (λ (p : Progress). p.back) legal.opened.opening)
      where
        no_events : (entries : List LogEntry) → length entries ≡ 0 → events_in entries ≡ []
        no_events [] none = refl
        no_events (entry ∷ entries) none = absurd (omega (arith, none))
