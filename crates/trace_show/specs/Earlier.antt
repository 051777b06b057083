-- In which order the conditions of an event are asked: of each, that those before it hold.
use Rattle.std.specs.Prelude.{◌≡◌, ◌≢◌, ℕ, Bool, true, false, [], Some, None}
use Rattle.asio_types.specs.declared.code.Code.{Code}
use Rattle.asio_types.specs.declared.event.Event.{Event}
use Rattle.asio_types.specs.declared.event.Event.TheVariants as event
use Rattle.session_script.specs.Script.{ScriptModel}
use Rattle.history_rules.specs.Executions.{IsReadyWith, LaneIsFree}
use Rattle.history_rules.specs.Order.{IsFirstOfLane, is_untaken}
use Rattle.history_rules.specs.Requests.{MayTell, MayTurn}
use Rattle.history_rules.specs.Rounds.{AllQuiet, HasRoundLeft, IsDrained, IsOver, NoCallIsOpen, NothingRuns, RoundIsOpen, outstanding_work, restarts, runs, this_round}
use Rattle.history_rules.specs.State.{State, phase_at}
use Rattle.history_rules.specs.Time.{IsIdle}
use Rattle.trace_show.specs.declared.reason.Reason.{Reason}
use Rattle.trace_show.specs.declared.reason.Reason.TheVariants as reason

-- of an execution outside of a call
abbrev pub begin_earlier : ScriptModel → State → ℕ → Code → ℕ → Reason → Type 0
begin_earlier script s o code size reason.IsReady = RoundIsOpen script s.context
begin_earlier script s o code size reason.LaneIsFree =
    RoundIsOpen script s.context × IsReadyWith (phase_at s.context o) code size
begin_earlier script s o code size reason.IsFirstOfLane =
    RoundIsOpen script s.context × IsReadyWith (phase_at s.context o) code size
    × LaneIsFree script s.context o
begin_earlier script s o code size reason.MayStart =
    RoundIsOpen script s.context × IsReadyWith (phase_at s.context o) code size
    × LaneIsFree script s.context o × IsFirstOfLane script s.context o
begin_earlier script s o code size _ = Unit {0}

-- of a turn of the reactor
abbrev pub turn_earlier : ScriptModel → State → Reason → Type 0
turn_earlier script s reason.IsWorking = RoundIsOpen script s.context
turn_earlier script s reason.NothingIsDue =
    RoundIsOpen script s.context × (s.reactor.failed ≡ false)
turn_earlier script s reason.IsDrained =
    RoundIsOpen script s.context × (s.reactor.failed ≡ false) × (s.reactor.due ≡ [])
turn_earlier script s reason.MayStart =
    RoundIsOpen script s.context × (s.reactor.failed ≡ false) × (s.reactor.due ≡ [])
    × IsDrained s.reactor
turn_earlier script s _ = Unit {0}

-- of a taken request, behind those of the turn
abbrev pub request_earlier : ScriptModel → State → ℕ → Reason → Type 0
request_earlier script s a reason.IsUntaken = MayTurn script s
request_earlier script s a reason.IsFirstRequest = MayTurn script s × (is_untaken s a ≡ true)
request_earlier script s a _ = Unit {0}

-- of an idle context, behind those of the turn
abbrev pub quiet_earlier : ScriptModel → State → Reason → Type 0
quiet_earlier script s reason.IsRunning = MayTurn script s
quiet_earlier script s reason.NoCallIsOpen =
    MayTurn script s × (runs (this_round script s.context) ≡ true)
quiet_earlier script s reason.AllQuiet =
    MayTurn script s × (runs (this_round script s.context) ≡ true) × NoCallIsOpen s.context
quiet_earlier script s reason.HasPending =
    MayTurn script s × (runs (this_round script s.context) ≡ true) × NoCallIsOpen s.context
    × AllQuiet s
quiet_earlier script s _ = Unit {0}

abbrev pub idle_earlier : ScriptModel → State → Reason → Type 0
idle_earlier script s r = turn_earlier script s r × quiet_earlier script s r

-- of a moved time, behind those of an idle context
abbrev pub time_earlier : ScriptModel → State → Reason → Type 0
time_earlier script s reason.IsNextTime = IsIdle script s
time_earlier script s _ = Unit {0}

abbrev pub tick_earlier : ScriptModel → State → Reason → Type 0
tick_earlier script s r = idle_earlier script s r × time_earlier script s r

-- of a completion
abbrev pub done_earlier : ScriptModel → Bool → State → ℕ → Code → ℕ → Reason → Type 0
done_earlier script told s o code size reason.MayTell = s.reactor.failed ≡ false
done_earlier script told s o code size reason.IsInTurn =
    (s.reactor.failed ≡ false) × MayTell script told s.reactor o code size
done_earlier script told s o code size _ = Unit {0}

abbrev pub fault_earlier : State → Reason → Type 0
fault_earlier s reason.MayBreakOff = s.reactor.failed ≡ false
fault_earlier s _ = Unit {0}

-- of the closings of rounds
abbrev pub ended_earlier : ScriptModel → State → Reason → Type 0
ended_earlier script s reason.IsGoing = RoundIsOpen script s.context
ended_earlier script s reason.HasNoWork =
    RoundIsOpen script s.context × (s.context.stopped ≡ false)
ended_earlier script s _ = Unit {0}

abbrev pub stopped_earlier : ScriptModel → State → Reason → Type 0
stopped_earlier script s reason.IsStopped = RoundIsOpen script s.context
stopped_earlier script s reason.NoCallIsOpen =
    RoundIsOpen script s.context × (s.context.stopped ≡ true)
stopped_earlier script s reason.NothingRuns =
    RoundIsOpen script s.context × (s.context.stopped ≡ true) × NoCallIsOpen s.context
stopped_earlier script s reason.NothingIsDue =
    RoundIsOpen script s.context × (s.context.stopped ≡ true) × NoCallIsOpen s.context
    × NothingRuns s.context
stopped_earlier script s reason.IsDrained =
    RoundIsOpen script s.context × (s.context.stopped ≡ true) × NoCallIsOpen s.context
    × NothingRuns s.context × (s.reactor.due ≡ [])
stopped_earlier script s reason.IsWorking =
    RoundIsOpen script s.context × (s.context.stopped ≡ true) × NoCallIsOpen s.context
    × NothingRuns s.context × (s.reactor.due ≡ []) × IsDrained s.reactor
stopped_earlier script s _ = Unit {0}

abbrev pub polled_earlier : ScriptModel → State → Reason → Type 0
polled_earlier script s reason.IsPolling = RoundIsOpen script s.context
polled_earlier script s reason.IsGoing =
    RoundIsOpen script s.context × (runs (this_round script s.context) ≡ false)
polled_earlier script s reason.HasWork =
    RoundIsOpen script s.context × (runs (this_round script s.context) ≡ false)
    × (s.context.stopped ≡ false)
polled_earlier script s reason.AllQuiet =
    RoundIsOpen script s.context × (runs (this_round script s.context) ≡ false)
    × (s.context.stopped ≡ false) × (outstanding_work s ≢ 0)
polled_earlier script s reason.NothingIsDue =
    RoundIsOpen script s.context × (runs (this_round script s.context) ≡ false)
    × (s.context.stopped ≡ false) × (outstanding_work s ≢ 0) × AllQuiet s
polled_earlier script s reason.IsDrained =
    RoundIsOpen script s.context × (runs (this_round script s.context) ≡ false)
    × (s.context.stopped ≡ false) × (outstanding_work s ≢ 0) × AllQuiet s × (s.reactor.due ≡ [])
polled_earlier script s _ = Unit {0}

abbrev pub restart_earlier : ScriptModel → State → Reason → Type 0
restart_earlier script s reason.HasRestart = HasRoundLeft script s.context
restart_earlier script s reason.IsRestartedOnce =
    HasRoundLeft script s.context × (restarts (this_round script s.context) ≡ true)
restart_earlier script s reason.NothingRuns =
    HasRoundLeft script s.context × (restarts (this_round script s.context) ≡ true)
    × (s.context.restarted ≡ false)
restart_earlier script s reason.IsWorking =
    HasRoundLeft script s.context × (restarts (this_round script s.context) ≡ true)
    × (s.context.restarted ≡ false) × NothingRuns s.context
restart_earlier script s _ = Unit {0}

abbrev pub drop_earlier : ScriptModel → State → Reason → Type 0
drop_earlier script s reason.IsNextDropped = IsOver script s
drop_earlier script s _ = Unit {0}

-- the conditions of the event before the one with this name hold; an event of one condition has none
-- before it
abbrev pub earlier : ScriptModel → Bool → State → Event → Reason → Type 0
earlier script told s (event.Call a) r = Unit {0}
earlier script told s (event.Back a) r = Unit {0}
earlier script told s (event.Stop (Some a)) r = Unit {0}
earlier script told s (event.Stop None) r = Unit {0}
earlier script told s (event.Begin o code size) r = begin_earlier script s o code size r
earlier script told s (event.End o mark) r = Unit {0}
earlier script told s (event.Take a) r = turn_earlier script s r × request_earlier script s a r
earlier script told s (event.Done o code size) r = done_earlier script told s o code size r
earlier script told s (event.Tick now) r = tick_earlier script s r
earlier script told s event.Last r = tick_earlier script s r
earlier script told s event.Fault r = fault_earlier s r
earlier script told s event.Ended r = ended_earlier script s r
earlier script told s event.Stopped r = stopped_earlier script s r
earlier script told s event.Polled r = polled_earlier script s r
earlier script told s event.Restart r = restart_earlier script s r
earlier script told s (event.Dropped o mark) r = drop_earlier script s r
