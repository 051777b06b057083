-- What the labels of a lane's parts show: an execution its own events behind its begin, and a turn of the reactor events
-- of a turn. What lanes and workers show lies within a round.
use Rattle.std.proofs.Common.{◌≡◌, ◌≢◌, ◌⊎◌, ℕ, ◌<◌, Bool, true, List, [], ◌∷◌, ◌++◌, None, Some, inl, inr, refl, sym, ap, subst, ◌∙◌, arith}
use mathlib.Core.Option.{some}
use lib.ListN.{get_elem?}
use Rattle.asio_types.specs.Code.{class_of_code}
use Rattle.asio_types.specs.declared.code.Code.{Code}
use Rattle.asio_types.specs.declared.event.Event.{Event}
use Rattle.asio_types.specs.declared.event.Event.TheVariants as event
use Rattle.asio_types.specs.declared.number.Lane.{Lane}
use Rattle.asio_types.specs.declared.outside.Point.{Point}
use Rattle.asio_types.specs.declared.outside.Point.TheVariants as point
use Rattle.op_handlers.specs.declared.call.Call.{Call}
use Rattle.session_script.specs.Lanes.{lane_of}
use Rattle.session_script.specs.Script.{Place, ScriptModel, parent_of}
use Rattle.session_script.specs.WellFormed.{IsWellFormed}
use Rattle.history_rules.specs.State.{ReactorHalf}
use Rattle.history_rules.specs.Time.{next_time}
use Rattle.strand_core.specs.declared.posted.Posted.{Posted}
use Rattle.strand_core.specs.declared.posted.Posted.TheVariants as posted
use Rattle.strand_core.specs.Execution.{IsWholeExecution, events_of}
use Rattle.lane_clock.specs.declared.found.Found.{Found}
use Rattle.lane_clock.specs.declared.step.ClockStep.{ClockStep}
use Rattle.lane_map.specs.LaneNumbers.{reactor_lane}
use Rattle.lane_logs.specs.Labels.{AreDrawn, Labelled, allots, entries_in, events_in, shows, silent}
use Rattle.lane_logs.specs.LaneLog.{MayFollow}
use Rattle.lane_logs.specs.Logs.{LogsView}
use Rattle.lane_logs.specs.Names.{IsNamedMark, SessionNames}
use Rattle.lane_logs.specs.OpenerLog.{opener_labels}
use Rattle.lane_logs.specs.Parts.{ExecutedPart, FailedPart, Part, TurnPart, TurnStart, end_labels, executed, failed, idle, labels_in, looks_empty, missing, passes, start_labels, takes, turned}
use Rattle.lane_logs.specs.ReactorTurns.{MayStartTurn, point_event}
use Rattle.lane_logs.specs.SeatNumbers.{lane_count, opener_seat}
use Rattle.lane_logs.specs.WorkerLog.{MayFollowStopped, WorkerPart, stopped, waiting}
use Rattle.execution_laws.proofs.StateLemmas.{IsHandlers}
use Rattle.history_merge.specs.Among.{IsPlaceOn}
use Rattle.history_merge.proofs.BodyLaneLemmas.{AreOwn, IsOwn, execution_is_own}
use Rattle.history_merge.proofs.DrawnLemmas.{drawn_shown}
use Rattle.history_merge.proofs.EachLabelLemmas.{HoldsOf, empty_each, end_each, is_of_turn}
use Rattle.history_merge.proofs.FrameLemmas.{IsWithinRound}
use Rattle.history_merge.proofs.LabellingLemmas.{AreLabels, each_label}
use Rattle.history_merge.proofs.PartLemmas.{Every, every-append, every_all, every_at, every_made, every_so, labels_worker}

-- what a label shows has this property
abbrev pub Shows : (Event → Type 0) → Labelled → Type 0
Shows P (silent step) = Unit {0}
Shows P (shows shown changes found) = P shown
Shows P (allots act lane place) = Unit {0}

pub shows_so : (P Q : Event → Type 0) → ((shown : Event) → P shown → Q shown) → (label : Labelled) → Shows P label →
    Shows Q label
shows_so P Q so (silent step) is = tt
shows_so P Q so (shows shown changes found) is = so shown is
shows_so P Q so (allots act lane place) is = tt

pub shown_every : (P : Event → Type 0) (labels : List Labelled) → Every P (events_in (entries_in labels)) →
    Every (Shows P) labels
shown_every P [] all = tt
shown_every P (silent step ∷ labels) all = (tt, shown_every P labels all)
shown_every P (shows shown changes found ∷ labels) all = (all.0, shown_every P labels all.1)
shown_every P (allots act lane place ∷ labels) all = (tt, shown_every P labels all)

own_every : (script : ScriptModel) (of : Lane) (events : List Event) → AreOwn script of events →
    Every (IsOwn script of) events
own_every script of [] own = tt
own_every script of (shown ∷ events) own = (own.0, own_every script of events own.1)

-- the begin of an operation, or an event of its execution behind that
abbrev pub IsOfExecution : ScriptModel → ℕ → Code → ℕ → Event → Type 0
IsOfExecution script op given size shown =
    (shown ≡ event.Begin op given size) ⊎ IsOwn script (lane_of script op) shown

abbrev pub IsOfTurn : Event → Type 0
IsOfTurn shown = is_of_turn shown ≡ true

-- what holds of each event that passes a test
pub holds_shown : (test : Event → Bool) (P : Event → Type 0) → ((shown : Event) → test shown ≡ true → P shown) →
    HoldsOf test (Shows P)
holds_shown test P each = record {
  events = λ shown is changes found. each shown is;
  places = λ act lane place. tt;
  puts = λ lane place note. tt;
}

module _ (script : ScriptModel) where
  -- the labels of an execution
  pub calls_show : (well : IsWellFormed script) (HasMark : Call → ℕ → Type 0) (op : ℕ) (given : Code) (size : ℕ)
      (calls : List Posted) (labels : List Labelled) → IsWholeExecution script HasMark op given size calls →
      AreDrawn script calls labels → Every (Shows (IsOfExecution script op given size)) labels
  calls_show well HasMark op given size calls labels whole drawn =
      let end : Posted = posted.End op (record { mark = whole.mark; class = class_of_code given; begun = whole.begun }) in
      let own : List Event = events_of script (whole.body ++ end ∷ []) in
      let is : events_of script calls ≡ event.Begin op given size ∷ own = ap (events_of script) whole.is in
      let all : AreOwn script (lane_of script op) own =
      execution_is_own script well HasMark (lane_of script op) op given size calls own refl whole is in
      shown_every (IsOfExecution script op given size) labels
      (subst (Every (IsOfExecution script op given size)) (sym (drawn_shown script drawn ∙ is)) (
        inl refl,
        every_so (IsOwn script (lane_of script op)) (IsOfExecution script op given size) (λ shown is. inr is) own
            (own_every script (lane_of script op) own all),
      ))

  point_of_turn : (to : Point) → IsOfTurn (point_event to)
  point_of_turn (point.Time now) = refl
  point_of_turn point.Last = refl

  start_shows : (lane : ℕ) (half : ReactorHalf) (running : Bool) (place : ℕ) (load drawn : Found) (start : TurnStart) →
      MayStartTurn script half running load start →
      Every (Shows IsOfTurn) (start_labels script lane place load drawn start)
  start_shows lane half running place load drawn (takes note changes) may = (tt, (tt, (refl, tt)))
  start_shows lane half running place load drawn (passes shown) may =
      every-append (Shows IsOfTurn) (looks_empty script lane place) _ (empty_each (Shows IsOfTurn) script lane place tt)
      (tt, (subst IsOfTurn (sym may.next) (point_of_turn (next_time script half)), tt))

-- what the parts of a lane show
module _ (names : SessionNames) (well : IsWellFormed names.script) (opener : List ClockStep) (lane : ℕ)
    (earlier : List Part) where
  pub executed_shows : (part : ExecutedPart) → MayFollow names opener lane earlier (executed part) →
      Every (Shows (IsOfExecution names.script part.note.op part.note.code part.note.size))
      (labels_in names.script lane (executed part))
  executed_shows part may = (
    tt,
    (
      tt,
      calls_show names.script well (IsNamedMark names) part.note.op part.note.code part.note.size part.calls
          part.labels may.whole may.drawn,
    ),
  )

  pub turned_shows : (part : TurnPart) → MayFollow names opener lane earlier (turned part) →
      Every (Shows IsOfTurn) (labels_in names.script lane (turned part))
  turned_shows part may =
      every-append (Shows IsOfTurn) (start_labels names.script lane part.place part.load part.drawn part.start)
      (end_labels part.end)
      (start_shows names.script lane _ _ part.place part.load part.drawn part.start may.starts)
      (end_each (Shows IsOfTurn) names.script (holds_shown is_of_turn IsOfTurn (λ shown is. is)) names.told _ part.end may.ends)

  pub failed_shows : (part : FailedPart) → Every (Shows IsOfTurn) (labels_in names.script lane (failed part))
  failed_shows part =
      every-append (Shows IsOfTurn) (looks_empty names.script lane part.place) _
      (empty_each (Shows IsOfTurn) names.script lane part.place tt) (tt, (refl, tt))

-- all this lies within a round
place_within : (script : ScriptModel) (of : Lane) (place : Place) → IsPlaceOn script of place → IsHandlers place
place_within script of None on = on
place_within script of (Some at) on = tt

pub own_within : (script : ScriptModel) (of : Lane) (shown : Event) → IsOwn script of shown → IsWithinRound script shown
own_within script of (event.Call a) own = place_within script of (parent_of script a) own
own_within script of (event.Back a) own = place_within script of (parent_of script a) own
own_within script of (event.Stop by) own = tt
own_within script of (event.Begin o given size) own = tt
own_within script of (event.End o mark) own = tt
own_within script of other own = absurd own

pub execution_within : (script : ScriptModel) (op : ℕ) (given : Code) (size : ℕ) (shown : Event) →
    IsOfExecution script op given size shown → IsWithinRound script shown
execution_within script op given size shown (inl is) = subst (IsWithinRound script) (sym is) tt
execution_within script op given size shown (inr own) = own_within script (lane_of script op) shown own

pub turn_within : (script : ScriptModel) (shown : Event) → IsOfTurn shown → IsWithinRound script shown
turn_within script (event.Take a) is = tt
turn_within script (event.Done o given size) is = tt
turn_within script (event.Tick now) is = tt
turn_within script event.Last is = tt
turn_within script event.Fault is = tt
turn_within script other is = absurd (cc)

module _ (names : SessionNames) (well : IsWellFormed names.script) (logs : LogsView) (labels : ℕ → List Labelled)
    (are : AreLabels names logs labels) where
  -- unless it is of the opener, a label shows what lies within a round
  abbrev WithinFor : ℕ → Labelled → Type 0
  WithinFor n label = n ≢ opener_seat names.script → Shows (IsWithinRound names.script) label

  lane_within : (lane : ℕ) (earlier : List Part) (part : Part) →
      MayFollow names (logs.lists (opener_seat names.script)) lane earlier part →
      Every (Shows (IsWithinRound names.script)) (labels_in names.script lane part)
  lane_within lane earlier (idle step) may = (tt, tt)
  lane_within lane earlier (executed part) may =
      every_so (Shows (IsOfExecution names.script part.note.op part.note.code part.note.size))
      (Shows (IsWithinRound names.script))
      (shows_so (IsOfExecution names.script part.note.op part.note.code part.note.size) (IsWithinRound names.script)
      (execution_within names.script part.note.op part.note.code part.note.size))
      (labels_in names.script lane (executed part))
      (executed_shows names well (logs.lists (opener_seat names.script)) lane earlier part may)
  lane_within lane earlier (turned part) may =
      every_so (Shows IsOfTurn) (Shows (IsWithinRound names.script))
      (shows_so IsOfTurn (IsWithinRound names.script) (turn_within names.script))
      (labels_in names.script lane (turned part))
      (turned_shows names well (logs.lists (opener_seat names.script)) lane earlier part may)
  lane_within lane earlier (failed part) may =
      every_so (Shows IsOfTurn) (Shows (IsWithinRound names.script))
      (shows_so IsOfTurn (IsWithinRound names.script) (turn_within names.script))
      (labels_in names.script lane (failed part))
      (failed_shows names well (logs.lists (opener_seat names.script)) lane earlier part)
  lane_within lane earlier (missing place note) may = (tt, tt)

  worker_within : (n : ℕ) (earlier : List WorkerPart) (part : WorkerPart) →
      MayFollowStopped names.script (logs.lists (opener_seat names.script)) earlier part →
      Every (Shows (IsWithinRound names.script)) (labels_worker part)
  worker_within n earlier (waiting step) may = (tt, tt)
  worker_within n earlier (stopped drawn) may = (tt, tt)

  pub within_round : (n i : ℕ) (label : Labelled) → get_elem? (labels n) i ≡ some label →
      n ≢ opener_seat names.script → Shows (IsWithinRound names.script) label
  within_round =
      each_label names logs labels are WithinFor
      (λ lane within earlier part may.
      every_so (Shows (IsWithinRound names.script)) (WithinFor lane) (λ label is away. is)
      (labels_in names.script lane part) (lane_within lane earlier part may))
      (λ n earlier part may.
      every_so (Shows (IsWithinRound names.script)) (WithinFor n) (λ label is away. is) (labels_worker part)
      (worker_within n earlier part may))
      (λ earlier part may.
      every_all (WithinFor (opener_seat names.script)) (λ label away. absurd (away refl)) (opener_labels part))

-- the reactor shows events of turns alone
module _ (names : SessionNames) (well : IsWellFormed names.script) (logs : LogsView) (labels : ℕ → List Labelled)
    (are : AreLabels names logs labels) (reactor_counted : reactor_lane names.script < lane_count names.script) where
  reactor_part : (earlier : List Part) (part : Part) →
      MayFollow names (logs.lists (opener_seat names.script)) (reactor_lane names.script) earlier part →
      Every (Shows IsOfTurn) (labels_in names.script (reactor_lane names.script) part)
  reactor_part earlier (idle step) may = (tt, tt)
  reactor_part earlier (executed part) may = let strand = may.strand in absurd (omega (arith, strand))
  reactor_part earlier (turned part) may =
      turned_shows names well (logs.lists (opener_seat names.script)) (reactor_lane names.script) earlier part may
  reactor_part earlier (failed part) may =
      failed_shows names well (logs.lists (opener_seat names.script)) (reactor_lane names.script) earlier part
  reactor_part earlier (missing place note) may = (tt, tt)

  pub reactor_shows : (i : ℕ) (label : Labelled) → get_elem? (labels (reactor_lane names.script)) i ≡ some label →
      Shows IsOfTurn label
  reactor_shows i label at =
      let made = are.lanes (reactor_lane names.script) reactor_counted in
      every_at (Shows IsOfTurn) (labels (reactor_lane names.script))
      (subst (Every (Shows IsOfTurn)) (sym made.are)
      (every_made Part (labels_in names.script (reactor_lane names.script))
      (MayFollow names (logs.lists (opener_seat names.script)) (reactor_lane names.script)) (Shows IsOfTurn) reactor_part
      made.parts made.follow)) i label at
