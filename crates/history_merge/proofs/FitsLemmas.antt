-- What was drawn, and the drops, fit into the room that a script asks for.
use Rattle.std.proofs.Common.{◌≡◌, ℕ, ◌+◌, ◌≤◌, Bool, cond, List, filter, length, ap, ◌∙◌, arith}
use Rattle.std.specs.List.{range_with_len}
use Rattle.std.proofs.lemmas.List.{length-map}
use Rattle.std.proofs.lemmas.List.Sums.{length-filter}
use Rattle.asio_types.specs.declared.event.Event.{Event}
use Rattle.session_script.specs.Script.{ScriptModel}
use Rattle.session_script.specs.WellFormed.{IsWellFormed}
use Rattle.history_rules.specs.Rounds.{is_unspent}
use Rattle.history_rules.specs.State.{ContextState, act_at, phase_at}
use Rattle.reactor_turns.proofs.SummingLemmas.{one_if, summed-less, summed-range}
use Rattle.lane_logs.specs.Drops.{dropped, is_left}
use Rattle.lane_logs.specs.Labels.{Labelled}
use Rattle.lane_logs.specs.Logs.{AreLogs, LogsView, all_events}
use Rattle.lane_logs.specs.Names.{SessionNames}
use Rattle.history_merge.specs.Merging.{IsMerging}
use Rattle.history_merge.specs.Room.{most_merged}
use Rattle.history_merge.proofs.ActsLeftLemmas.{act_shows, acts_show, unspent_shows}
use Rattle.history_merge.proofs.EndLemmas.{are_left, labelled, room}
use Rattle.history_merge.proofs.FewStopsLemmas.{outside_most}
use Rattle.history_merge.proofs.HistoryLemmas.{shown_in}
use Rattle.history_merge.proofs.LabellingLemmas.{AreLabels}
use Rattle.history_merge.proofs.MergedLemmas.{all_drawn}
use Rattle.history_merge.proofs.RoomLemmas.{history_fits}
use Rattle.history_merge.proofs.SoLemmas.{IsSo, state_so}

-- the handlers that are left are no more than what acts may still show
left_most : (script : ScriptModel) (s : ContextState) (test : ℕ → Bool) →
    ((n : ℕ) → is_unspent (phase_at s n) ≡ test n) →
    length (filter test (range_with_len 0 (length script.acts))) ≤ acts_show script s
left_most script s test left =
    let count = length-filter test (range_with_len 0 (length script.acts)) in
    let sums = summed-range (λ n. cond (test n) 1 0) (length script.acts) in
    let less =
    summed-less (λ n. cond (test n) 1 0) (λ n. act_shows script n (act_at s n)) (length script.acts) (λ n.
    let is = ap one_if (left n) in let shows = unspent_shows (phase_at s n) in omega (arith, is, shows)) in
    omega (arith, count, sums, less)

module _ (names : SessionNames) (well : IsWellFormed names.script) (logs : LogsView) (events : List Event)
    (logged : AreLogs names logs) (merging : IsMerging logs events) (labels : ℕ → List Labelled)
    (are : AreLabels names logs labels) (so : IsSo names logs labels are logged.closed.history) where
  drops_most : length logs.drops ≤ acts_show names.script (state_so names logs labels are logged.closed.history).context
  drops_most =
      let test : ℕ → Bool = λ n. is_left names (all_events logs) n in
      let left = filter test (range_with_len 0 (length names.script.acts)) in
      let size : length logs.drops ≡ length left =
      ap length logged.drops ∙ length-map left (dropped names) in
      let most =
      left_most names.script (state_so names logs labels are logged.closed.history).context test
      (are_left names well logs events logged merging labels are so) in
      omega (arith, size, most)

  pub fits : logs.last.clock + length logs.drops ≤ most_merged names.script
  fits =
      let drawn = all_drawn names logs labels logged are in
      let all =
      history_fits names.script well names.told (shown_in labels logged.closed.history)
      (room names well logs events logged merging labels are so) so.expected in
      let outside =
      outside_most names well logs labels logged are logged.closed.history logged.closed.sound
      (labelled names well logs events logged merging labels are so) in
      let drops = drops_most in
      omega (arith, drawn, all, outside, drops)
