-- All that is asked of a step holds of each step of a lane on which handlers execute.
use Rattle.std.proofs.Common.{◌≡◌, ℕ, ◌<◌, List, ◌∷◌, refl, subst, arith}
use Rattle.asio_types.specs.declared.event.Event.TheVariants as event
use Rattle.session_script.specs.Lanes.{lane_of}
use Rattle.session_script.specs.WellFormed.{IsWellFormed}
use Rattle.history_rules.specs.Executions.{MayBeginOutside}
use Rattle.history_rules.specs.State.{State}
use Rattle.history_rules.specs.Stopping.{MayStart}
use Rattle.lane_clock.specs.declared.found.Change.{Change}
use Rattle.lane_clock.specs.declared.found.Found.{Found}
use Rattle.lane_clock.specs.declared.step.ClockStep.{ClockStep}
use Rattle.lane_clock.specs.History.{ClockEvent}
use Rattle.lane_clock.proofs.MomentLemmas.{Tail, tail_refl}
use Rattle.lane_map.specs.LaneNumbers.{reactor_lane}
use Rattle.lane_logs.specs.Labels.{Labelled, shows}
use Rattle.lane_logs.specs.LaneLog.{MayFollow}
use Rattle.lane_logs.specs.Logs.{AreLogs, LogsView}
use Rattle.lane_logs.specs.Names.{SessionNames}
use Rattle.lane_logs.specs.Parts.{ExecutedPart, Part, executed}
use Rattle.lane_logs.specs.SeatNumbers.{lane_count, opener_seat}
use Rattle.history_merge.specs.Among.{LaneIsIdle}
use Rattle.history_merge.proofs.BeginAllowedLemmas.{begin_allowed, lane_round_open}
use Rattle.history_merge.proofs.BeginPartLemmas.{begins_part}
use Rattle.history_merge.proofs.DrawRoundLemmas.{lane_at, lane_follows}
use Rattle.history_merge.proofs.ExecutionLemmas.{begin_may}
use Rattle.history_merge.proofs.GoingNextLemmas.{staged_may}
use Rattle.history_merge.proofs.HistoryLemmas.{AreLabelled}
use Rattle.history_merge.proofs.LabellingLemmas.{AreLabels}
use Rattle.history_merge.proofs.OpenerNextLemmas.{next_step}
use Rattle.history_merge.proofs.SoFarLemmas.{MayShow}
use Rattle.history_merge.proofs.SoLemmas.{IsSo, state_so}
use Rattle.history_merge.proofs.SoNextLemmas.{IsNextStep}
use Rattle.history_merge.proofs.StagedLemmas.{IsNextOf, executing_op, label, labelled_to}
use Rattle.history_merge.proofs.UnbegunLemmas.{unbegun}

module _ (names : SessionNames) (well : IsWellFormed names.script) (logs : LogsView) (labels : ℕ → List Labelled)
    (logged : AreLogs names logs) (are : AreLabels names logs labels) (e : ClockEvent) (es : List ClockEvent)
    (tail : Tail (e ∷ es) logged.closed.history) (so : (a : List ClockEvent) → Tail a es → IsSo names logs labels are a)
    (within : e.by < lane_count names.script) (below : e.by < reactor_lane names.script) where
  abbrev Opener : List ClockStep
  Opener = logs.lists (opener_seat names.script)

  abbrev s : State
  s = state_so names logs labels are es

  abbrev now : IsSo names logs labels are es
  now = so es (tail_refl es)

  all : AreLabelled labels (e ∷ es)
  all = labelled_to names well logs labels logged are (e ∷ es) tail

  -- the part of the lane's log in which the step stands
  abbrev drawn : IsNextOf names well logs labels logged are e es tail e.by within
  drawn = record {
    at = lane_at names logs labels logged are e es tail all.1 within;
    may = lane_follows names logs labels logged are e es tail all.1 within;
  }

  -- an execution may begin
  begin : (part : ExecutedPart) (earlier : List Part) →
      (next : IsNextOf names well logs labels logged are e es tail e.by within) → next.at.part ≡ executed part →
      next.at.earlier ≡ earlier → MayFollow names Opener e.by earlier (executed part) → (changes : Change) (found : Found) →
      label names well logs labels logged are e es tail
      ≡ shows (event.Begin part.note.op part.note.code part.note.size) changes found →
      LaneIsIdle names.script (lane_of names.script part.note.op) s.context →
      MayBeginOutside names.script s.context part.note.op part.note.code part.note.size
  begin part earlier next is same may changes found begins idle =
      let noted =
      (executing_op names well logs labels logged are e es tail now e.by refl within below next part is
      (event.Begin part.note.op part.note.code part.note.size) changes found begins).1 in
      let own =
      begins_part names well logs labels logged are e es tail e.by within below drawn part.note.op part.note.code
      part.note.size changes found begins noted.unentered in
      begin_may names well logs labels logged are e es tail now e.by refl within below next part is changes found begins idle
      (lane_round_open names well logs labels logged are e es tail all within
      (event.Begin part.note.op part.note.code part.note.size) changes found begins)
      (subst (λ op. MayStart s.context (lane_of names.script op)) own.of
      (begin_allowed names well logs labels logged are e es tail all within
      (event.Begin part.note.op part.note.code part.note.size) changes found begins so own.part own.is own.front))
      (unbegun names well logs labels logged are e es tail so e.by refl within below next part.note.op part.note.code
      part.note.size changes found begins noted)

  pub lane_next : IsNextStep names well logs labels logged are e es tail (so es (tail_refl es))
  lane_next =
      next_step names well logs labels logged are e es tail so (λ same. absurd (omega (arith, same, below)))
      (λ shown changes found is.
      subst (λ l. MayShow names.script names.told l (state_so names logs labels are es)) is
      (staged_may names well logs labels logged are e es tail (so es (tail_refl es)) e.by refl within below begin))
