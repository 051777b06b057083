-- The begin of an execution may happen, where the round is open, its lane may start and its operation hasn't begun.
use Rattle.std.proofs.Common.{◌≡◌, ◌≢◌, ℕ, ◌<◌, false, List, ◌∷◌, refl, subst, arith}
use Rattle.asio_types.specs.declared.event.Event.TheVariants as event
use Rattle.session_script.specs.Lanes.{lane_of}
use Rattle.session_script.specs.WellFormed.{IsWellFormed}
use Rattle.history_rules.specs.Executions.{MayBeginOutside}
use Rattle.history_rules.specs.Stopping.{MayStart}
use Rattle.history_rules.specs.Rounds.{RoundIsOpen, is_running}
use Rattle.history_rules.specs.State.{State, phase_at}
use Rattle.history_rules.specs.declared.phase.ActPhase.{ActPhase}
use Rattle.history_rules.specs.declared.phase.ActPhase.TheVariants as phase
use Rattle.lane_clock.specs.declared.found.Change.{Change}
use Rattle.lane_clock.specs.declared.found.Found.{Found}
use Rattle.lane_clock.specs.History.{ClockEvent}
use Rattle.lane_clock.proofs.MomentLemmas.{Tail, tail_more}
use Rattle.lane_map.specs.LaneNumbers.{reactor_lane}
use Rattle.lane_logs.specs.Labels.{Labelled, shows}
use Rattle.lane_logs.specs.LaneLog.{MayFollow}
use Rattle.lane_logs.specs.Logs.{AreLogs, LogsView}
use Rattle.lane_logs.specs.Names.{SessionNames}
use Rattle.lane_logs.specs.Parts.{ExecutedPart, executed}
use Rattle.lane_logs.specs.SeatNumbers.{lane_count, opener_seat}
use Rattle.history_merge.specs.Among.{LaneIsIdle, is_underway}
use Rattle.history_merge.proofs.DatesLemmas.{is_past}
use Rattle.history_merge.proofs.FirstOfLaneLemmas.{first_of_lane}
use Rattle.history_merge.proofs.LabellingLemmas.{AreLabels}
use Rattle.history_merge.proofs.PassedBegunLemmas.{passed_begun}
use Rattle.history_merge.proofs.ReadyNoteLemmas.{ready_note}
use Rattle.history_merge.proofs.SoLemmas.{IsSo, state_so}
use Rattle.history_merge.proofs.StagedLemmas.{IsNextOf, executing_op, label}

not_running : (of : ActPhase) → is_underway of ≡ false → is_running of ≡ false
not_running (phase.Running class progress) isnt = absurd (cc)
not_running other isnt = refl

module _ (names : SessionNames) (well : IsWellFormed names.script) (logs : LogsView) (labels : ℕ → List Labelled)
    (logged : AreLogs names logs) (are : AreLabels names logs labels) (e : ClockEvent) (es : List ClockEvent)
    (tail : Tail (e ∷ es) logged.closed.history) (so : IsSo names logs labels are es)
    (n : ℕ) (by : e.by ≡ n) (inside : n < lane_count names.script) (below : n < reactor_lane names.script)
    (next : IsNextOf names well logs labels logged are e es tail n inside) (part : ExecutedPart)
    (is : next.at.part ≡ executed part) where
  abbrev s : State
  s = state_so names logs labels are es

  pub begin_may : (changes : Change) (found : Found) →
      label names well logs labels logged are e es tail
      ≡ shows (event.Begin part.note.op part.note.code part.note.size) changes found →
      LaneIsIdle names.script (lane_of names.script part.note.op) s.context → RoundIsOpen names.script s.context →
      MayStart s.context (lane_of names.script part.note.op) → is_past (phase_at s.context part.note.op) ≡ false →
      MayBeginOutside names.script s.context part.note.op part.note.code part.note.size
  begin_may changes found begins idle round allowed unbegun =
      let op =
      executing_op names well logs labels logged are e es tail so n by inside below next part is
      (event.Begin part.note.op part.note.code part.note.size) changes found begins in
      let away : n ≢ reactor_lane names.script = λ same. absurd (omega (arith, same, below)) in
      let may : MayFollow names (logs.lists (opener_seat names.script)) n next.at.earlier (executed part) =
      subst (MayFollow names (logs.lists (opener_seat names.script)) n next.at.earlier) is next.may in
      let place = may.next in
      let so_far = tail_more es e logged.closed.history tail in
      record {
        round = round;
        ready = ready_note names well logs labels logged are es so_far so n part.place part.note away op.0 unbegun;
        alone = λ other on. not_running (phase_at s.context other) (idle.quiet other on);
        first =
            first_of_lane names well logs labels logged are es so_far so n part.place part.note away op.1.home op.0
            (λ x number p less made.
            passed_begun names well logs labels logged are e es tail so n inside next below x number p
            (omega (arith, less, place)) made);
        allowed = allowed;
      }
