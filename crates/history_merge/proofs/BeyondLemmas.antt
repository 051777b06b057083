-- No place is drawn beyond the cells of its lane.
use Rattle.std.proofs.Common.{◌≡◌, ℕ, ◌+◌, ◌<◌, Bool, true, false, cond, List, ◌∷◌, inl, inr, refl, sym, ap, subst, ◌∙◌, arith}
use Rattle.std.proofs.lemmas.Bool.{cases_eq, eq-eqb}
use mathlib.Core.Option.{some}
use lib.ListN.{get_elem?}
use Rattle.session_script.specs.Script.{ScriptModel}
use Rattle.session_script.specs.WellFormed.{IsWellFormed}
use Rattle.history_rules.specs.State.{first_state}
use Rattle.lane_clock.specs.declared.step.ClockStep.TheVariants.{Place}
use Rattle.lane_clock.specs.History.{ClockEvent, places_after, steps_under}
use Rattle.lane_clock.specs.Steps.{place_count}
use Rattle.lane_clock.proofs.KnownLemmas.{event as made_event}
use Rattle.lane_clock.proofs.MomentLemmas.{moment_of, sound_tail, tail_refl}
use Rattle.lane_map.specs.LaneNumbers.{act_passes, asks_its_lane, home_lane, reactor_lane}
use Rattle.lane_logs.specs.Labels.{Labelled, allots, shows, silent, step_of}
use Rattle.lane_logs.specs.Logs.{AreLogs, LogsView, session_layout}
use Rattle.lane_logs.specs.Names.{SessionNames}
use Rattle.lane_logs.specs.SeatNumbers.{lane_count}
use Rattle.history_merge.specs.Merging.{NoneIsBeyond}
use Rattle.history_merge.proofs.AskedLemmas.{asked_label}
use Rattle.history_merge.proofs.CalledLemmas.{AreExpected}
use Rattle.history_merge.proofs.CellsEnoughLemmas.{awaited_op}
use Rattle.history_merge.proofs.CellRoomLemmas.{cells_room, told_list}
use Rattle.history_merge.proofs.HistoryLemmas.{AreLabelled, shown_in}
use Rattle.history_merge.proofs.LabellingLemmas.{AreLabels, plain_label}
use Rattle.history_merge.proofs.LaneOfLemmas.{home_before, home_counted, lanes_size}
use Rattle.history_merge.proofs.PartLemmas.{every_at, label_of_step}
use Rattle.history_merge.proofs.ReactorPlaceLemmas.{IsTold}
use Rattle.history_merge.proofs.SinceLemmas.{labelled_at}
use Rattle.history_merge.proofs.TimeLemmas.{places_tail}

module _ (names : SessionNames) (well : IsWellFormed names.script) (logs : LogsView) (labels : ℕ → List Labelled)
    (logged : AreLogs names logs) (are : AreLabels names logs labels)
    (expected : AreExpected names.script names.told (first_state names.script names.told)
    (shown_in labels logged.closed.history)) where
  abbrev script : ScriptModel
  script = names.script

  abbrev r : ℕ
  r = reactor_lane script

  abbrev whole : List ClockEvent
  whole = logged.closed.history

  labelled : AreLabelled labels whole
  labelled = labelled_at names logs labels logged are whole (tail_refl whole)

  within : r < lane_count script
  within = let size = lanes_size script well in omega (arith, size)

  -- a place is of a lane
  place_lane : (n i : ℕ) (label : Labelled) (lane place : ℕ) → get_elem? (labels n) i ≡ some label →
      step_of label ≡ Place lane place → lane < lane_count script
  place_lane n i (silent step) lane place at is =
      let plain = plain_label names logs labels are n i (silent step) at in
      let wrong : 0 ≡ 1 = sym plain.1 ∙ ap place_count is in absurd (omega (arith, wrong))
  place_lane n i (shows shown changes found) lane place at is = absurd (cc)
  place_lane n i (allots op on cell) lane place at is =
      let same : on ≡ lane = cc in
      elim (cases_eq n r) [
        | inl reacts ↦
            let told : IsTold script (allots op on cell) =
            every_at (IsTold script) (labels r) (told_list names well logs labels are) i (allots op on cell)
            (subst (λ n. get_elem? (labels n) i ≡ some (allots op on cell)) reacts at) in
            let less = home_before script well op (awaited_op script op told.1) in
            let home = told.0 in
            let inside = within in
            omega (arith, same, less, home, inside)
        | inr away ↦
            let asked = asked_label names well logs labels are n i (allots op on cell) at away in
            let home = home_counted script well op asked.within in
            let inside = within in
            let most =
            by_kind (act_passes asks_its_lane script op) (home_lane script op) r (lane_count script) home inside in
            let asks = asked.asks in
            omega (arith, same, most, asks)
      ]
    where
      by_kind : (posting : Bool) (home last all : ℕ) → home < all → last < all → cond posting home last < all
      by_kind true home last all first second = first
      by_kind false home last all first second = second

  -- each place has a cell
  pub none_beyond : NoneIsBeyond script logs
  none_beyond n i lane place at =
      let label = label_of_step (labels n) i (Place lane place) (ap (λ xs. get_elem? xs i) (are.steps n) ∙ at) in
      let on : lane < lane_count script = place_lane n i label.0 lane place label.1 label.2 in
      let there : get_elem? (steps_under n whole) i ≡ some (Place lane place) =
      subst (λ xs. get_elem? xs i ≡ some (Place lane place)) (logged.closed.all n) at in
      let moment = moment_of whole n i (Place lane place) there in
      let since : List ClockEvent = made_event n (Place lane place) ∷ moment.older in
      let sound =
      sound_tail (session_layout script).guards (session_layout script).seats since whole moment.tail logged.closed.sound in
      let drawn : place ≡ places_after lane moment.older = sound.2.0 in
      let next : places_after lane since ≡ places_after lane moment.older + 1 =
      ap (λ b. cond b (places_after lane moment.older + 1) (places_after lane moment.older)) (eq-eqb lane lane refl) in
      let more = places_tail labels lane since whole moment.tail in
      let most = cells_room names well logs labels are logged whole (tail_refl whole) labelled expected lane on in
      omega (arith, drawn, next, more, most)
