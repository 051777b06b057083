-- What no log shows: a mark that isn't named, and, but for the workers' logs, a stop from outside.
use Rattle.std.proofs.Common.{◌≡◌, ℕ, zero, suc, Bool, true, false, List, [], ◌∷◌, ◌++◌, None, length, map, refl, sym, ap, subst, ◌∙◌, arith, Some}
use Rattle.std.specs.Prelude.{◌||◌}
use Rattle.std.specs.List.{list_any}
use Rattle.std.proofs.lemmas.List.Folds.{list_any-append}
use mathlib.Core.Option.{some, some-injective, some-ne-none}
use lib.ListN.{get_elem?}
use Rattle.asio_types.specs.declared.code.Code.{Code}
use Rattle.asio_types.specs.declared.event.Event.{Event}
use Rattle.asio_types.specs.declared.event.Event.TheVariants as event
use Rattle.asio_types.specs.declared.outside.Point.{Point}
use Rattle.asio_types.specs.declared.outside.Point.TheVariants as point
use Rattle.session_script.specs.Script.{ScriptModel}
use Rattle.session_script.specs.WellFormed.{IsWellFormed}
use Rattle.history_rules.specs.FromOutside.{has_outside_stop, is_outside_stop}
use Rattle.execution_laws.specs.Marks.{AreMarked, BeginsAt, IsToldMark, IsMarked}
use Rattle.op_handlers.specs.Marks.{own_marks}
use Rattle.history_rules.specs.State.{ReactorHalf}
use Rattle.history_rules.specs.Time.{next_time}
use Rattle.strand_core.specs.Execution.{events_of}
use Rattle.strand_core.specs.declared.posted.Posted.{Posted}
use Rattle.execution_laws.proofs.ShownLemmas.{marked_execution, marks-append, marks_so, unmarked_opening}
use Rattle.lane_clock.specs.declared.found.Change.{Change}
use Rattle.lane_clock.specs.declared.found.Found.{Found}
use Rattle.lane_clock.specs.declared.step.ClockStep.{ClockStep}
use Rattle.lane_clock.specs.History.{ClockEvent, steps_under}
use Rattle.lane_logs.specs.Labels.{AreDrawn, Labelled, allots, entries_in, events_in, shows, silent}
use Rattle.lane_logs.specs.LaneLog.{MayFollow}
use Rattle.lane_logs.specs.Logs.{LogsView}
use Rattle.lane_logs.specs.Names.{SessionNames}
use Rattle.lane_logs.specs.OpenerLog.{ClosedPart, Closes, MayFollowOpened, OpenerPart, closed, look_label, opened, opener_labels, resting, restarted}
use Rattle.lane_logs.specs.Parts.{Part, TurnStart, end_labels, executed, failed, idle, labels_in, looks_empty, missing, passes, start_labels, takes, turned}
use Rattle.lane_logs.specs.ReactorTurns.{MayStartTurn, point_event}
use Rattle.lane_logs.specs.SeatNumbers.{IsWorkerSeat, opener_seat}
use Rattle.lane_logs.specs.WorkerLog.{WorkerPart, stopped, waiting}
use Rattle.history_merge.specs.Merging.{NoWorkerStops}
use Rattle.history_merge.proofs.DrawnLemmas.{drawn_shown}
use Rattle.history_merge.proofs.EachLabelLemmas.{calls_each, empty_each, end_each, is_of_execution, is_of_turn, looks_each}
use Rattle.history_merge.proofs.HistoryLemmas.{AreLabelled, label_of, shown_by, shown_in}
use Rattle.history_merge.proofs.LabellingLemmas.{AreLabels, each_among}
use Rattle.history_merge.proofs.PartLemmas.{Every, every-append, every_so, labels_worker}
use Rattle.history_merge.proofs.SaidLemmas.{HasBegin, begin_before, begin_behind, drawn_begins, told_so}
use Rattle.history_merge.proofs.ShowsLemmas.{Shows, holds_shown, shown_every, shows_so}

-- the event shows a mark only if that is named, and is no stop from outside
pub record IsFair (HasMark : ℕ → ℕ → Type 0) (drop : ℕ → ℕ) (shown : Event) : Type 0 where
  pub marked : IsMarked HasMark drop shown
  pub inner : is_outside_stop shown ≡ false

marks_each : (HasMark : ℕ → ℕ → Type 0) (drop : ℕ → ℕ) (events : List Event) → AreMarked HasMark drop events →
    Every (IsMarked HasMark drop) events
marks_each HasMark drop [] all = tt
marks_each HasMark drop (shown ∷ events) all = (all.0, marks_each HasMark drop events all.1)

every_both : {A : Type 0} (P Q R : A → Type 0) → ((x : A) → P x → Q x → R x) → (xs : List A) → Every P xs →
    Every Q xs → Every R xs
every_both P Q R both [] first second = tt
every_both P Q R both (x ∷ xs) first second = (both x first.0 second.0, every_both P Q R both xs first.1 second.1)

-- no stop from outside
record IsInner (shown : Event) : Type 0 where
  inner : is_outside_stop shown ≡ false

called_inner : (shown : Event) → is_of_execution shown ≡ true → IsInner shown
called_inner (event.Stop (Some a)) is = record { inner = refl }
called_inner (event.Stop None) is = absurd (cc)
called_inner other is = record { inner = refl }

turn_fair : (HasMark : ℕ → ℕ → Type 0) (drop : ℕ → ℕ) (shown : Event) → is_of_turn shown ≡ true → IsFair HasMark drop shown
turn_fair HasMark drop (event.Take a) is = record { marked = tt; inner = refl }
turn_fair HasMark drop (event.Done o code size) is = record { marked = tt; inner = refl }
turn_fair HasMark drop (event.Tick now) is = record { marked = tt; inner = refl }
turn_fair HasMark drop event.Last is = record { marked = tt; inner = refl }
turn_fair HasMark drop event.Fault is = record { marked = tt; inner = refl }
turn_fair HasMark drop other is = absurd (cc)

module _ (script : ScriptModel) where
  module _ (HasMark : ℕ → ℕ → Type 0) (drop : ℕ → ℕ) where
    fair_label : (label : Labelled) → Shows (IsMarked HasMark drop) label → Shows IsInner label → Shows (IsFair HasMark drop) label
    fair_label (silent step) marked inner = tt
    fair_label (shows shown changes found) marked inner =
        record { marked = marked; inner = inner.inner }
    fair_label (allots act lane place) marked inner = tt

    calls_fair : {calls : List Posted} {labels : List Labelled} → AreDrawn script calls labels →
        AreMarked HasMark drop (events_of script calls) → Every (Shows (IsFair HasMark drop)) labels
    calls_fair {calls} {labels} drawn marks =
        every_both (Shows (IsMarked HasMark drop)) (Shows IsInner) (Shows (IsFair HasMark drop)) fair_label labels
        (shown_every (IsMarked HasMark drop) labels
        (marks_each HasMark drop (events_in (entries_in labels))
        (subst (AreMarked HasMark drop) (sym (drawn_shown script drawn)) marks)))
        (calls_each (Shows IsInner) script (holds_shown is_of_execution IsInner called_inner) drawn)

    point_fair : (to : Point) → IsFair HasMark drop (point_event to)
    point_fair (point.Time now) = record { marked = tt; inner = refl }
    point_fair point.Last = record { marked = tt; inner = refl }

    start_fair : (lane place : ℕ) (half : ReactorHalf) (running : Bool) (load drawn : Found) (start : TurnStart) →
        MayStartTurn script half running load start →
        Every (Shows (IsFair HasMark drop)) (start_labels script lane place load drawn start)
    start_fair lane place half running load drawn (takes note changes) may =
        (tt, (tt, (record { marked = tt; inner = refl }, tt)))
    start_fair lane place half running load drawn (passes shown) may =
        every-append (Shows (IsFair HasMark drop)) (looks_empty script lane place) _
        (empty_each (Shows (IsFair HasMark drop)) script lane place tt)
        (tt, (subst (IsFair HasMark drop) (sym may.next) (point_fair (next_time script half)), tt))

    closing_fair : (lists : ℕ → List ClockStep) (earlier : List OpenerPart) (part : ClosedPart) (shown : Event) →
        Closes script lists earlier part shown → IsFair HasMark drop shown
    closing_fair lists earlier part event.Ended closes = record { marked = tt; inner = refl }
    closing_fair lists earlier part event.Stopped closes = record { marked = tt; inner = refl }
    closing_fair lists earlier part event.Polled closes = record { marked = tt; inner = refl }
    closing_fair lists earlier part other closes = absurd closes

    opener_fair : IsWellFormed script → (lists : ℕ → List ClockStep) (earlier : List OpenerPart) (part : OpenerPart) →
        MayFollowOpened script lists earlier part → Every (Shows (IsFair HasMark drop)) (opener_labels part)
    opener_fair well lists earlier (resting step) may = (tt, tt)
    opener_fair well lists earlier (opened calls labels) may =
        calls_fair may.drawn (unmarked_opening script HasMark drop calls well may.acts)
    opener_fair well lists earlier (restarted drawn) may = (record { marked = tt; inner = refl }, tt)
    opener_fair well lists earlier (closed part) may = (
      tt,
      every-append (Shows (IsFair HasMark drop)) (map look_label part.looks) _
          (looks_each (Shows (IsFair HasMark drop)) (λ look. tt) part.looks)
          (closing_fair lists earlier part part.shown may.closes, tt),
    )

-- the run mark that is named, told of a begin that has its entry among those of these labels
abbrev Told : SessionNames → List Labelled → ℕ → ℕ → Type 0
Told names labels = IsToldMark (own_marks names.run) (HasBegin (entries_in labels))

module _ (names : SessionNames) (opener : List ClockStep) (lane : ℕ) where
  -- what each part of a lane shows
  abbrev IsFairIn : List Labelled → Labelled → Type 0
  IsFairIn labels = Shows (IsFair (Told names labels) names.drop)

  lane_fair : (earlier : List Part) (part : Part) → MayFollow names opener lane earlier part →
      Every (IsFairIn (labels_in names.script lane part)) (labels_in names.script lane part)
  lane_fair earlier (idle step) may = (tt, tt)
  lane_fair earlier (executed part) may = (
    tt,
    (
      tt,
      calls_fair names.script (Told names part.labels) names.drop may.drawn
          (marked_execution names.script names.run names.drop (HasBegin (entries_in part.labels)) part.note.op part.note.code
          part.note.size part.calls may.whole (drawn_begins names.script may.drawn)),
    ),
  )
  lane_fair earlier (turned part) may =
      let all : List Labelled = labels_in names.script lane (turned part) in
      every-append (IsFairIn all) (start_labels names.script lane part.place part.load part.drawn part.start)
      (end_labels part.end)
      (start_fair names.script (Told names all) names.drop lane part.place _ _ part.load part.drawn part.start may.starts)
      (end_each (IsFairIn all) names.script
      (holds_shown is_of_turn (IsFair (Told names all) names.drop) (turn_fair (Told names all) names.drop)) names.told _
      part.end may.ends)
  lane_fair earlier (failed part) may =
      let all : List Labelled = labels_in names.script lane (failed part) in
      every-append (IsFairIn all) (looks_empty names.script lane part.place) _
      (empty_each (IsFairIn all) names.script lane part.place tt) (tt, (record { marked = tt; inner = refl }, tt))
  lane_fair earlier (missing place note) may = (tt, tt)

-- what a log with these labels shows: a worker's a stop from outside alone
pub record IsShownBy (names : SessionNames) (n : ℕ) (labels : List Labelled) (shown : Event) : Type 0 where
  pub marked : IsMarked (Told names labels) names.drop shown
  pub inner : (IsWorkerSeat names.script n → ⊥) → is_outside_stop shown ≡ false

module _ (names : SessionNames) (n : ℕ) where
  shown_so : (xs ys : List Labelled) → ((o mark : ℕ) → Told names xs o mark → Told names ys o mark) →
      (label : Labelled) → Shows (IsShownBy names n xs) label → Shows (IsShownBy names n ys) label
  shown_so xs ys so (silent step) shown = tt
  shown_so xs ys so (shows (event.End o mark) changes found) is =
      record { marked = so o mark is.marked; inner = is.inner }
  shown_so xs ys so (shows (event.Dropped o mark) changes found) is =
      record { marked = is.marked; inner = is.inner }
  shown_so xs ys so (shows other changes found) is = record { marked = tt; inner = is.inner }
  shown_so xs ys so (allots act lane place) shown = tt

  shown_behind : (xs ys : List Labelled) (label : Labelled) → Shows (IsShownBy names n xs) label →
      Shows (IsShownBy names n (xs ++ ys)) label
  shown_behind xs ys =
      shown_so xs (xs ++ ys)
      (told_so (own_marks names.run) (HasBegin (entries_in xs)) (HasBegin (entries_in (xs ++ ys))) (begin_behind xs ys))

  shown_before : (xs ys : List Labelled) (label : Labelled) → Shows (IsShownBy names n ys) label →
      Shows (IsShownBy names n (xs ++ ys)) label
  shown_before xs ys =
      shown_so ys (xs ++ ys)
      (told_so (own_marks names.run) (HasBegin (entries_in ys)) (HasBegin (entries_in (xs ++ ys))) (begin_before xs ys))

  fair_shown : (labels : List Labelled) (shown : Event) → IsFair (Told names labels) names.drop shown →
      IsShownBy names n labels shown
  fair_shown labels shown fair = record { marked = fair.marked; inner = λ isnt. fair.inner }

  of_worker : IsWorkerSeat names.script n → (part : WorkerPart) →
      Every (Shows (IsShownBy names n (labels_worker part))) (labels_worker part)
  of_worker seat (waiting step) = (tt, tt)
  of_worker seat (stopped drawn) = (record { marked = tt; inner = λ isnt. absurd (isnt seat) }, tt)

module _ (names : SessionNames) (well : IsWellFormed names.script) (logs : LogsView) (labels : ℕ → List Labelled)
    (are : AreLabels names logs labels) where
  -- so it is of each label
  pub shown_label : (n i : ℕ) (label : Labelled) → get_elem? (labels n) i ≡ some label →
      Shows (IsShownBy names n (labels n)) label
  shown_label =
      each_among names logs labels are (λ n xs label. Shows (IsShownBy names n xs) label) (shown_behind names)
      (shown_before names)
      (λ lane within earlier part may.
      every_so (Shows (IsFair (Told names (labels_in names.script lane part)) names.drop))
      (Shows (IsShownBy names lane (labels_in names.script lane part)))
      (shows_so (IsFair (Told names (labels_in names.script lane part)) names.drop)
      (IsShownBy names lane (labels_in names.script lane part))
      (fair_shown names lane (labels_in names.script lane part)))
      (labels_in names.script lane part)
      (lane_fair names (logs.lists (opener_seat names.script)) lane earlier part may))
      (λ n seat earlier part may. of_worker names n seat part)
      (λ earlier part may.
      every_so (Shows (IsFair (Told names (opener_labels part)) names.drop))
      (Shows (IsShownBy names (opener_seat names.script) (opener_labels part)))
      (shows_so (IsFair (Told names (opener_labels part)) names.drop)
      (IsShownBy names (opener_seat names.script) (opener_labels part))
      (fair_shown names (opener_seat names.script) (opener_labels part)))
      (opener_labels part)
      (opener_fair names.script (Told names (opener_labels part)) names.drop well logs.lists earlier part may))

  -- the history has the named marks, where the begins of all logs are in it
  module _ (history : List Event)
      (begun : (n o : ℕ) (given : Code) (size at : ℕ) → HasBegin (entries_in (labels n)) o given size at → BeginsAt history o given size at)
    where
      abbrev ToldIn : ℕ → ℕ → Type 0
      ToldIn = IsToldMark (own_marks names.run) (BeginsAt history)

      label_marks : (n : ℕ) (label : Labelled) → Shows (IsShownBy names n (labels n)) label →
          AreMarked ToldIn names.drop (shown_by label)
      label_marks n (silent step) shown = tt
      label_marks n (shows shown changes found) is =
          marks_so (Told names (labels n)) ToldIn names.drop
          (told_so (own_marks names.run) (HasBegin (entries_in (labels n))) (BeginsAt history) (begun n)) (shown ∷ []) (is.marked, tt)
      label_marks n (allots act lane place) shown = tt

      pub has_marks : (es : List ClockEvent) → AreLabelled labels es → AreMarked ToldIn names.drop (shown_in labels es)
      has_marks [] all = tt
      has_marks (e ∷ es) all =
          marks-append ToldIn names.drop (shown_in labels es) (shown_by (label_of labels es e)) (has_marks es all.0)
          (label_marks e.by (label_of labels es e)
          (shown_label e.by (length (steps_under e.by es)) (label_of labels es e) all.1.there))

  -- where no worker's log has an entry, no stop from outside is shown
  module _ (quiet : NoWorkerStops names.script logs) where
    shown_entry : (xs : List Labelled) (i : ℕ) (shown : Event) (changes : Change) (found : Found) → entries_in xs ≡ [] →
        get_elem? xs i ≡ some (shows shown changes found) → ⊥
    shown_entry [] i shown changes found none at = absurd (some-ne-none (shows shown changes found) (sym at))
    shown_entry (shows other change drawn ∷ xs) i shown changes found none at =
        let wrong : suc (length (entries_in xs)) ≡ 0 = ap length none in absurd (omega (arith, wrong))
    shown_entry (silent step ∷ xs) zero shown changes found none at =
        let is : silent step ≡ shows shown changes found = some-injective _ _ at in cc
    shown_entry (silent step ∷ xs) (suc i) shown changes found none at = shown_entry xs i shown changes found none at
    shown_entry (allots act lane place ∷ xs) zero shown changes found none at =
        let is : allots act lane place ≡ shows shown changes found = some-injective _ _ at in cc
    shown_entry (allots act lane place ∷ xs) (suc i) shown changes found none at =
        shown_entry xs i shown changes found none at

    label_inner : (n i : ℕ) (label : Labelled) → get_elem? (labels n) i ≡ some label →
        Shows (IsShownBy names n (labels n)) label → list_any is_outside_stop (shown_by label) ≡ false
    label_inner n i (silent step) at is = refl
    label_inner n i (shows shown changes found) at is =
        ap (λ b. b || false)
        (is.inner (λ seat. shown_entry (labels n) i shown changes found (are.entries n ∙ quiet n seat) at))
    label_inner n i (allots act lane place) at is = refl

    pub none_outside : (es : List ClockEvent) → AreLabelled labels es → has_outside_stop (shown_in labels es) ≡ false
    none_outside [] all = refl
    none_outside (e ∷ es) all =
        let i : ℕ = length (steps_under e.by es) in
        list_any-append is_outside_stop (shown_in labels es) (shown_by (label_of labels es e))
        ∙ (ap (λ b. b || list_any is_outside_stop (shown_by (label_of labels es e))) (none_outside es all.0)
        ∙ label_inner e.by i (label_of labels es e) all.1.there
        (shown_label e.by i (label_of labels es e) all.1.there))
