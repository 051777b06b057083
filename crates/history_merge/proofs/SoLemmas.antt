-- The facts of the state that the events shown so far leave: what the induction over the one history of steps keeps.
use Rattle.std.proofs.Common.{◌≡◌, ℕ, ◌+◌, ◌<◌, ◌^◌, true, false, List, Some, None, length}
use Rattle.std.specs.Prelude.{slice_get}
use Rattle.asio_types.specs.declared.event.Event.{Event}
use Rattle.session_script.specs.Script.{ScriptModel, is_op, opening_of, parent_of}
use Rattle.session_script.specs.Lanes.{lane_of}
use Rattle.history_rules.specs.Calls.{is_open}
use Rattle.history_rules.specs.Legal.{IsLegalSoFar}
use Rattle.history_rules.specs.Order.{is_request, was_taken}
use Rattle.history_rules.specs.State.{ContextState, State, call_at, first_state, phase_at}
use Rattle.history_rules.specs.declared.phase.CallPhase.TheVariants as call
use Rattle.execution_laws.specs.Accounted.{IsAccounted}
use Rattle.execution_laws.specs.Kinds.{was_called}
use Rattle.execution_laws.specs.Standing.{IsStanding}
use Rattle.reactor_turns.specs.Ahead.{IsHalfOf}
use Rattle.lane_clock.specs.History.{ClockEvent, word_after}
use Rattle.lane_clock.specs.ClockWord.{found_of}
use Rattle.lane_map.specs.LaneNumbers.{act_passes, asks_reactor, home_lane}
use Rattle.lane_logs.specs.Labels.{Labelled}
use Rattle.lane_logs.specs.Logs.{LogsView}
use Rattle.lane_logs.specs.Names.{SessionNames}
use Rattle.lane_logs.specs.SeatNumbers.{lane_count}
use Rattle.history_merge.proofs.AmongLemmas.{IsGoing}
use Rattle.history_merge.proofs.CalledLemmas.{AreExpected}
use Rattle.history_merge.proofs.DatesLemmas.{AreDated}
use Rattle.history_merge.proofs.HistoryLemmas.{shown_in}
use Rattle.history_merge.proofs.KindLemmas.{AreOfKind}
use Rattle.history_merge.proofs.LabellingLemmas.{AreLabels}
use Rattle.history_merge.proofs.OrderlyLemmas.{IsInOrder}
use Rattle.history_merge.proofs.ReadyLemmas.{ArePosted}
use Rattle.history_merge.proofs.SoFarLemmas.{state_at}
use Rattle.history_merge.proofs.StageLemmas.{left_at}
use Rattle.history_merge.proofs.StopLemmas.{IsHalted, halts_of}
use Rattle.history_merge.proofs.WordLemmas.{counts_of}

-- an open call of `open` is the one behind those that are back
pub record IsOpeningCall (script : ScriptModel) (s : ContextState) (n : ℕ) : Type 0 where
  pub made : s.opening.made ≡ s.opening.back + 1
  pub at : slice_get (opening_of script) s.opening.back ≡ Some n

-- at most one call of `open` is open at a time
abbrev pub OpensInTurn : ScriptModel → ContextState → Type 0
OpensInTurn script s =
    (n : ℕ) → parent_of script n ≡ None → is_open (call_at s n) ≡ true → IsOpeningCall script s n

-- a request that was called and wasn't taken asks the reactor still
abbrev pub AskStill : ScriptModel → State → Type 0
AskStill script s =
    (n : ℕ) → act_passes asks_reactor script n ≡ true → was_called (call_at s.context n) ≡ true →
    was_taken s.reactor n ≡ false → is_request (phase_at s.context n) ≡ true

-- nothing was taken that wasn't called
abbrev pub TakesCalled : State → Type 0
TakesCalled s = (n : ℕ) → call_at s.context n ≡ call.Uncalled → was_taken s.reactor n ≡ false

-- as many operations are pending as the reactor has to complete, each once
pub record IsBalanced (script : ScriptModel) (s : State) : Type 0 where
  pub accounted : IsAccounted script s
  pub standing : IsStanding s

-- What the facts of a state say that don't turn on who drew its events
pub record IsSoundState (script : ScriptModel) (s : State) : Type 0 where
  -- acts are called in the order of bodies, once each, and all dates are past
  pub order : IsInOrder script s.context
  pub kinds : AreOfKind script s.context.acts
  pub posted : ArePosted script s.context.acts
  pub opens : OpensInTurn script s.context
  pub untaken : TakesCalled s
  pub asking : AskStill script s
  -- the reactor's marks and streams are the script's, and what it has to complete was taken
  pub half : IsHalfOf script s.reactor
  pub guards : length s.reactor.guards ≡ script.guards
  pub balanced : s.reactor.failed ≡ false → IsBalanced script s

module _ (names : SessionNames) (logs : LogsView) (labels : ℕ → List Labelled) (are : AreLabels names logs labels) where
  -- the state after these steps
  abbrev pub state_so : List ClockEvent → State
  state_so es = state_at names.script names.told labels es

  abbrev pub events_so : List ClockEvent → List Event
  events_so es = shown_in labels es

  pub record IsSo (es : List ClockEvent) : Type 0 where
    pub legal : IsLegalSoFar names.script names.told (events_so es)
    pub expected : AreExpected names.script names.told (first_state names.script names.told) (events_so es)
    pub state : IsSoundState names.script (state_so es)
    -- all dates of acts and of the turn are those of events
    pub dates : AreDated names.script (events_so es) (state_so es).context
    -- what is left of the execution in which an operation's lane is, is legal where it is alone, and all that the lane has
    -- to do with looks there as it does here; where nothing is left the lane is idle
    pub going : (o : ℕ) → is_op names.script o ≡ true → (within : home_lane names.script o < lane_count names.script) →
        IsGoing names.script names.told (lane_of names.script o)
        (left_at names logs labels are es (home_lane names.script o) within) (state_so es).context.acts
    -- the clock word counts events, outstanding work and stops
    pub counts : found_of (word_after names.script.guards es) ≡ counts_of names.script names.told labels es
    pub few : (halts_of (events_so es)).stops < 2 ^ 16
    -- the context is stopped where there were stops since the last restart
    pub halted : IsHalted (state_so es).context.stopped (halts_of (events_so es))
