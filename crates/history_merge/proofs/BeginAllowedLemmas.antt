-- Where a lane's execution begins, a round is open and the lane may begin something.
use Rattle.std.proofs.Common.{◌≡◌, ℕ, ◌<◌, List, [], ◌∷◌, sym, ap, subst, arith}
use Rattle.std.specs.Prelude.{Some}
use lib.ListN.{get_elem?}
use Rattle.asio_types.specs.declared.event.Event.{Event}
use Rattle.session_script.specs.Lanes.{lane_of}
use Rattle.session_script.specs.WellFormed.{IsWellFormed}
use Rattle.history_rules.specs.Rounds.{RoundIsOpen}
use Rattle.history_rules.specs.Stopping.{MayStart}
use Rattle.lane_clock.specs.declared.found.Change.{Change}
use Rattle.lane_clock.specs.declared.found.Found.{Found}
use Rattle.lane_clock.specs.declared.step.ClockStep.TheVariants.{Load, Look}
use Rattle.lane_clock.specs.History.{ClockEvent}
use Rattle.lane_clock.proofs.MomentLemmas.{Tail}
use Rattle.lane_logs.specs.Labels.{Labelled, shows, silent}
use Rattle.lane_logs.specs.LaneLog.{MayFollow}
use Rattle.lane_logs.specs.Logs.{AreLogs, LogsView}
use Rattle.lane_logs.specs.Names.{SessionNames}
use Rattle.lane_logs.specs.Parts.{ExecutedPart, executed}
use Rattle.lane_logs.specs.SeatNumbers.{lane_count, opener_seat}
use Rattle.history_merge.proofs.AllowanceLemmas.{may_begin}
use Rattle.history_merge.proofs.DrawRoundLemmas.{lane_at, lane_follows}
use Rattle.history_merge.proofs.HistoryLemmas.{AreLabelled, label_of}
use Rattle.history_merge.proofs.HomeLemmas.{executed_home}
use Rattle.history_merge.proofs.LabellingLemmas.{AreLabels}
use Rattle.history_merge.proofs.OpenerMayLemmas.{others_round}
use Rattle.history_merge.proofs.PartLemmas.{Every}
use Rattle.history_merge.proofs.ShowsLemmas.{Shows}
use Rattle.history_merge.proofs.SoLemmas.{IsSo, state_so}

module _ (names : SessionNames) (well : IsWellFormed names.script) (logs : LogsView) (labels : ℕ → List Labelled)
    (logged : AreLogs names logs) (are : AreLabels names logs labels) (e : ClockEvent) (es : List ClockEvent)
    (tail : Tail (e ∷ es) logged.closed.history) (all : AreLabelled labels (e ∷ es))
    (within : e.by < lane_count names.script) (shown : Event) (changes : Change) (found : Found)
    (is : label_of labels es e ≡ shows shown changes found) where
  -- whatever a lane draws lies in an open round
  pub lane_round_open : RoundIsOpen names.script (state_so names logs labels are es).context
  lane_round_open =
      others_round names well logs labels logged are e es tail all shown changes found is
      (λ same. absurd (omega (arith, within, same)))

  -- behind the look and the load of its part the lane may begin the operation that was noted
  pub begin_allowed : (so : (a : List ClockEvent) → Tail a es → IsSo names logs labels are a) (part : ExecutedPart) →
      (lane_at names logs labels logged are e es tail all.1 within).part ≡ executed part →
      (lane_at names logs labels logged are e es tail all.1 within).before
      ≡ silent (Look e.by part.place (Some part.note)) ∷ silent (Load part.load) ∷ [] →
      MayStart (state_so names logs labels are es).context (lane_of names.script part.note.op)
  begin_allowed so part here front =
      may_begin names well logs labels logged are e es tail all within shown changes found is so
      (subst (Every (Shows (λ other. ⊥))) (sym front) (tt, (tt, tt))) part.load 1 (ap (λ xs. get_elem? xs 1) front)
      (subst
      (MayFollow names (logs.lists (opener_seat names.script)) e.by
      (lane_at names logs labels logged are e es tail all.1 within).earlier) here
      (lane_follows names logs labels logged are e es tail all.1 within)).going part.note.op
      (executed_home names well logs labels logged are e es tail all within shown changes found is part here)
