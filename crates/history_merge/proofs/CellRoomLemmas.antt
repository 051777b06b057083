-- As far as a history has come, no more places of a lane were drawn than it has cells.
use Rattle.std.proofs.Common.{◌≡◌, ℕ, ◌<◌, ◌≤◌, Bool, true, false, List, length, refl, sym, ap, subst, ◌∙◌, arith}
use Rattle.std.specs.Prelude.{◌&&◌, slice_index}
use Rattle.session_script.specs.Script.{ScriptModel}
use Rattle.session_script.specs.WellFormed.{IsWellFormed}
use Rattle.history_rules.specs.Order.{was_taken}
use Rattle.history_rules.specs.State.{first_state}
use Rattle.lane_clock.specs.History.{ClockEvent, places_after, steps_under}
use Rattle.lane_clock.proofs.MomentLemmas.{Tail, sound_tail}
use Rattle.lane_map.specs.LaneNumbers.{cells_of, cells_on, lane_list, reactor_lane}
use Rattle.lane_logs.specs.Labels.{Labelled}
use Rattle.lane_logs.specs.LaneLog.{half_after}
use Rattle.lane_logs.specs.Logs.{AreLogs, LogsView, session_layout}
use Rattle.lane_logs.specs.Names.{SessionNames}
use Rattle.lane_logs.specs.Parts.{labels_of}
use Rattle.lane_logs.specs.SeatNumbers.{lane_count, opener_seat}
use Rattle.reactor_turns.proofs.SummingLemmas.{one_if}
use Rattle.history_merge.proofs.AskedLemmas.{allots_on, places_total}
use Rattle.history_merge.proofs.CellsEnoughLemmas.{cells_enough, reacts_total, split_total, told_most}
use Rattle.lane_map.proofs.CountLemmas.{read_table}
use Rattle.history_merge.proofs.BackLemmas.{allots_for}
use Rattle.history_merge.proofs.CalledLemmas.{AreExpected}
use Rattle.history_merge.proofs.CellLemmas.{placed_most}
use Rattle.history_merge.proofs.HistoryLemmas.{AreLabelled, shown_in}
use Rattle.history_merge.proofs.LabellingLemmas.{AreLabels, lane_are}
use Rattle.history_merge.proofs.LaneOfLemmas.{lanes_size}
use Rattle.history_merge.proofs.PartLemmas.{Every, lane_made}
use Rattle.history_merge.proofs.ReactorPlaceLemmas.{IsPlacing, IsTold, awaits, placing}
use Rattle.history_merge.proofs.TimesLemmas.{take_times, times}

-- the places that the reactor's list allots are those of completions, once an operation
module _ (names : SessionNames) (well : IsWellFormed names.script) (logs : LogsView) (labels : ℕ → List Labelled)
    (are : AreLabels names logs labels) where
  abbrev script : ScriptModel
  script = names.script

  abbrev r : ℕ
  r = reactor_lane names.script

  within : reactor_lane names.script < lane_count names.script
  within = let size = lanes_size script well in omega (arith, size)

  told_parts : IsPlacing names well (logs.lists (opener_seat script)) r refl (are.lanes r within).parts
  told_parts =
      placing names well (logs.lists (opener_seat script)) r refl (are.lanes r within).parts
      (lane_are names (logs.lists (opener_seat script)) r (are.lanes r within).parts (are.lanes r within).follow)

  list_is : labels r ≡ labels_of script r (are.lanes r within).parts
  list_is = (are.lanes r within).are ∙ sym (lane_made script r (are.lanes r within).parts)

  pub told_list : Every (IsTold names.script) (labels (reactor_lane names.script))
  told_list = subst (Every (IsTold script)) (sym list_is) told_parts.each

  pub told_once : (op : ℕ) → times (allots_for op) (labels (reactor_lane names.script)) ≤ one_if (awaits names.script op)
  told_once op =
      let count = ap (times (allots_for op)) list_is in
      let most = told_parts.bounded op in
      let less =
      by_test (awaits script op)
      (was_taken (half_after names (logs.lists (opener_seat script)) r (are.lanes r within).parts) op) in
      omega (arith, count, most, less)
    where
      by_test : (a b : Bool) → one_if (a && b) ≤ one_if a
      by_test true true = omega arith
      by_test true false = omega arith
      by_test false b = omega arith

  -- so no more places of a lane are drawn than it has cells
  module _ (logged : AreLogs names logs) (es : List ClockEvent) (tail : Tail es logged.closed.history)
      (all : AreLabelled labels es)
      (expected : AreExpected names.script names.told (first_state names.script names.told) (shown_in labels es)) where
    pub cells_room : (lane : ℕ) → lane < lane_count names.script → places_after lane es ≤ slice_index (cells_of names.script) lane
    cells_room lane there =
        let places = places_total labels lane es all in
        let split = split_total labels r (allots_on lane) es in
        let placed =
        placed_most names well logs labels are lane (session_layout script).guards (session_layout script).seats es
        logged.closed.few.0
        (sound_tail (session_layout script).guards (session_layout script).seats es logged.closed.history tail
        logged.closed.sound) all expected in
        let reacts = reacts_total labels r (allots_on lane) es all in
        let fewer = take_times (allots_on lane) (labels r) (length (steps_under r es)) in
        let told = told_most script well lane (labels r) told_list told_once in
        let enough = cells_enough script well lane in
        let cells = read_table (cells_on script) (cells_of script) (length (lane_list script)) lane refl there in
        omega (arith, places, split, placed, reacts, fewer, told, enough, cells)
