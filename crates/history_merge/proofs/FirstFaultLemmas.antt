-- The reactor's log never begins with its failure: without a request that was taken nothing is pending,
-- and the reactor then doesn't wait for the outside.
use Rattle.std.proofs.Common.{◌≡◌, ℕ, zero, suc, ◌+◌, ◌*◌, ◌<◌, Bool, true, false, List, [], ◌∷◌, ◌++◌, length, replicate, refl, sym, ap, ◌∙◌, arith}
use Rattle.std.specs.Prelude.{◌||◌, flat_map, nat_lt, not, slice_index, slice_index_or, sum_by}
use Rattle.std.specs.List.{list_any}
use Rattle.std.proofs.lemmas.List.Folds.{list_any-append, sum_by-replicate}
use Rattle.asio_types.specs.declared.event.Event.{Event}
use Rattle.asio_types.specs.declared.outside.Point.{Point}
use Rattle.asio_types.specs.declared.outside.Point.TheVariants as point
use Rattle.session_script.specs.Script.{ScriptModel}
use Rattle.history_rules.specs.FromOutside.{is_fault}
use Rattle.history_rules.specs.State.{ReactorHalf, StreamQueues, first_reactor, no_queues}
use Rattle.history_rules.specs.Time.{next_time, pending_count}
use Rattle.lane_clock.specs.declared.found.Found.{Found}
use Rattle.lane_clock.specs.declared.step.ClockStep.{ClockStep}
use Rattle.lane_map.specs.LaneNumbers.{cells_of, reactor_lane}
use Rattle.lane_map.proofs.NumberLemmas.{lane_count as lanes_counted}
use Rattle.lane_logs.specs.declared.log.LogEntry.{LogEntry}
use Rattle.lane_logs.specs.Half.{half_of}
use Rattle.lane_logs.specs.Labels.{Labelled, entries_in, events_in}
use Rattle.lane_logs.specs.LaneLog.{AreParts, MayFollow, entries_after}
use Rattle.lane_logs.specs.Logs.{AreLogs, LogsView, all_events, entries_of}
use Rattle.lane_logs.specs.Names.{SessionNames}
use Rattle.lane_logs.specs.Parts.{Part, TurnStart, end_labels, executed, failed, idle, labels_in, labels_of, missing, passes, start_labels, takes, turned}
use Rattle.lane_logs.specs.ReactorTurns.{MayStartTurn, point_event}
use Rattle.lane_logs.specs.SeatNumbers.{lane_count}
use Rattle.lane_logs.proofs.LabelLemmas.{entries-append}
use Rattle.history_merge.proofs.OpenedLemmas.{events-entries}
use Rattle.history_merge.proofs.RestingLemmas.{either_false, look_entries}

-- whether an event is no failure
abbrev pub is_other : Event → Bool
is_other shown = not (is_fault shown)

-- at first nothing is pending
none_pending : (script : ScriptModel) (told : Bool) → pending_count (first_reactor script told) ≡ 0
none_pending script told =
    let queued : sum_by (λ (queues : StreamQueues). length queues.reads + length queues.writes)
    (replicate script.world.streams no_queues) ≡ script.world.streams * 0 =
    sum_by-replicate (λ (queues : StreamQueues). length queues.reads + length queues.writes) script.world.streams no_queues in
    omega (arith, queued)

-- a test of the events of labels, of which some come first
any_shown : (test : Event → Bool) (xs ys : List Labelled) →
    list_any test (events_in (entries_in (xs ++ ys)))
    ≡ (list_any test (events_in (entries_in xs)) || list_any test (events_in (entries_in ys)))
any_shown test xs ys =
    ap (list_any test) (events-entries xs ys)
    ∙ list_any-append test (events_in (entries_in xs)) (events_in (entries_in ys))

-- where no event of all logs passes a test, none of one log does
none_apart : (test : Event → Bool) (log : List LogEntry) (logs : List (List LogEntry)) →
    list_any test (flat_map events_in (log ∷ logs)) ≡ false →
    (list_any test (events_in log) ≡ false) × (list_any test (flat_map events_in logs) ≡ false)
none_apart test log logs none =
    either_false (list_any test (events_in log)) (list_any test (flat_map events_in logs))
    (sym (list_any-append test (events_in log) (flat_map events_in logs)) ∙ none)

none_of_one : (test : Event → Bool) (logs : List (List LogEntry)) (seat : ℕ) →
    list_any test (flat_map events_in logs) ≡ false → list_any test (events_in (slice_index_or logs seat [])) ≡ false
none_of_one test [] seat none = refl
none_of_one test (log ∷ logs) zero none = (none_apart test log logs none).0
none_of_one test (log ∷ logs) (suc seat) none = none_of_one test logs seat (none_apart test log logs none).1

-- a turn begins with another event
point_other : (to : Point) → is_other (point_event to) ≡ true
point_other (point.Time now) = refl
point_other point.Last = refl

start_other : (script : ScriptModel) (lane : ℕ) (half : ReactorHalf) (running : Bool) (place : ℕ) (load found : Found)
    (start : TurnStart) → MayStartTurn script half running load start →
    list_any is_other (events_in (entries_in (start_labels script lane place load found start))) ≡ true
start_other script lane half running place load found (takes note changes) may = refl
start_other script lane half running place load found (passes shown) may =
    ap (λ entries. list_any is_other (events_in entries))
    (look_entries (nat_lt place (slice_index (cells_of script) lane)) lane place _)
    ∙ ap (λ b. b || false) (ap is_other may.next ∙ point_other (next_time script half))

module _ (names : SessionNames) (opener : List ClockStep) (lane : ℕ) (is : lane ≡ reactor_lane names.script) where
  abbrev entries : List Part → List LogEntry
  entries parts = entries_after names opener lane parts

  -- parts of the reactor's lane that show failures alone show nothing
  nothing_shown : (parts : List Part) → AreParts names opener lane parts →
      list_any is_other (events_in (entries parts)) ≡ false → entries parts ≡ []
  nothing_shown [] are only = refl
  nothing_shown (part ∷ parts) are only =
      let earlier : List Labelled = labels_of names.script lane parts in
      let made : List Labelled = labels_in names.script lane part in
      let apart =
      either_false (list_any is_other (events_in (entries_in earlier))) (list_any is_other (events_in (entries_in made)))
      (sym (any_shown is_other earlier made) ∙ only) in
      let before = nothing_shown parts are.0 apart.0 in
      entries-append earlier made
      ∙ (ap (λ xs. xs ++ entries_in made) before ∙ by_part part are.1 apart.1 before)
    where
      by_part : (part : Part) → MayFollow names opener lane parts part →
          list_any is_other (events_in (entries_in (labels_in names.script lane part))) ≡ false → entries parts ≡ [] →
          entries_in (labels_in names.script lane part) ≡ []
      by_part (idle step) may only before = refl
      by_part (executed part) may only before = let strand = may.strand in absurd (omega (arith, strand, is))
      by_part (turned part) may only before =
          let start : List Labelled = start_labels names.script lane part.place part.load part.drawn part.start in
          let apart =
          either_false (list_any is_other (events_in (entries_in start)))
          (list_any is_other (events_in (entries_in (end_labels part.end))))
          (sym (any_shown is_other start (end_labels part.end)) ∙ only) in
          let other = start_other names.script lane _ _ part.place part.load part.drawn part.start may.starts in
          absurd (let wrong : true ≡ false = sym other ∙ apart.0 in cc)
      by_part (failed part) may only before =
          let pending = may.pending in
          let none = ap (λ xs. pending_count (half_of names.script names.told xs)) before ∙ none_pending names.script names.told in
          absurd (omega (arith, pending, none))
      by_part (missing place note) may only before = refl

-- so where the logs show failures alone, the reactor's log is empty
pub reactor_silent : (names : SessionNames) (logs : LogsView) → AreLogs names logs →
    list_any is_other (all_events logs) ≡ false → entries_of logs (reactor_lane names.script) ≡ []
reactor_silent names logs logged only =
    let lane : ℕ = reactor_lane names.script in
    let within : lane < lane_count names.script = let count = lanes_counted names.script in omega (arith, count) in
    let log = logged.lanes lane within in
    log.shown
    ∙ nothing_shown names _ lane refl log.parts log.are
    (ap (λ xs. list_any is_other (events_in xs)) (sym log.shown) ∙ none_of_one is_other logs.entries lane only)
