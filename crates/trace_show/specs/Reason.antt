-- Which condition an event breaks: those of each event are the parts of `MayHappen`, each under its
-- name.
use Rattle.std.specs.Prelude.{◌≡◌, ◌⊎◌, ◌≤◌, ℕ, Bool, true, false, List, [], IsSome, Some, None}
use Rattle.asio_types.specs.declared.code.Code.{Code}
use Rattle.asio_types.specs.declared.event.Event.{Event}
use Rattle.asio_types.specs.declared.event.Event.TheVariants as event
use Rattle.asio_types.specs.declared.number.Lane.TheVariants as lane
use Rattle.asio_types.specs.declared.outside.Point.{Point}
use Rattle.asio_types.specs.declared.outside.Point.TheVariants as point
use Rattle.session_script.specs.Script.{ScriptModel}
use Rattle.session_script.specs.Lanes.{lane_of}
use Rattle.history_rules.specs.Calls.{MayCall, MayReturn, MayStop}
use Rattle.history_rules.specs.Executions.{IsReadyWith, LaneIsFree, MayBeginInside, MayEnd}
use Rattle.history_rules.specs.Legal.{MayHappen}
use Rattle.history_rules.specs.Order.{IsFirstOfLane, IsFirstRequest, is_untaken}
use Rattle.history_rules.specs.Requests.{MayTell}
use Rattle.history_rules.specs.Rounds.{AllQuiet, HasRoundLeft, IsDrained, IsNextDropped, IsOver, NoCallIsOpen, NothingRuns, RoundIsOpen, outstanding_work, restarts, runs, this_round}
use Rattle.history_rules.specs.State.{State, phase_at}
use Rattle.history_rules.specs.Stopping.{MayStart}
use Rattle.history_rules.specs.Time.{MayBreakOff, next_time, pending_count}
use Rattle.trace_show.specs.Earlier.{earlier}
use Rattle.trace_show.specs.declared.reason.Reason.{Reason}
use Rattle.trace_show.specs.declared.reason.Reason.TheVariants as reason

-- the conditions of a call, of its return and of a stop
abbrev pub call_condition : ScriptModel → State → ℕ → Reason → Type 0
call_condition script s a reason.MayCall = MayCall script s.reactor.failed s.context a
call_condition script s a _ = Unit {0}

abbrev pub return_condition : ScriptModel → State → ℕ → Reason → Type 0
return_condition script s a reason.MayReturn = MayReturn script s.context a
return_condition script s a _ = Unit {0}

abbrev pub stop_condition : ScriptModel → State → ℕ → Reason → Type 0
stop_condition script s a reason.MayStop = MayStop script s.context a
stop_condition script s a _ = Unit {0}

abbrev pub outside_stop_condition : ScriptModel → State → Reason → Type 0
outside_stop_condition script s reason.RoundIsOpen = RoundIsOpen script s.context
outside_stop_condition script s _ = Unit {0}

-- those of an execution: all but that of a dispatch inside its call are of the others
abbrev pub begin_condition : ScriptModel → State → ℕ → Code → ℕ → Reason → Type 0
begin_condition script s o code size reason.MayBeginInside = MayBeginInside s.context o code size
begin_condition script s o code size reason.RoundIsOpen = RoundIsOpen script s.context
begin_condition script s o code size reason.IsReady = IsReadyWith (phase_at s.context o) code size
begin_condition script s o code size reason.LaneIsFree = LaneIsFree script s.context o
begin_condition script s o code size reason.IsFirstOfLane = IsFirstOfLane script s.context o
begin_condition script s o code size reason.MayStart = MayStart s.context (lane_of script o)
begin_condition script s o code size _ = Unit {0}

abbrev pub end_condition : ScriptModel → State → ℕ → Reason → Type 0
end_condition script s o reason.MayEnd = MayEnd script s.context o
end_condition script s o _ = Unit {0}

-- those of a turn of the reactor
abbrev pub turn_condition : ScriptModel → State → Reason → Type 0
turn_condition script s reason.RoundIsOpen = RoundIsOpen script s.context
turn_condition script s reason.IsWorking = s.reactor.failed ≡ false
turn_condition script s reason.NothingIsDue = s.reactor.due ≡ []
turn_condition script s reason.IsDrained = IsDrained s.reactor
turn_condition script s reason.MayStart = MayStart s.context lane.Reactor
turn_condition script s _ = Unit {0}

-- those of a taken request beside the turn's
abbrev pub request_condition : State → ℕ → Reason → Type 0
request_condition s a reason.IsUntaken = is_untaken s a ≡ true
request_condition s a reason.IsFirstRequest = IsFirstRequest s a
request_condition s a _ = Unit {0}

abbrev pub take_condition : ScriptModel → State → ℕ → Reason → Type 0
take_condition script s a r = turn_condition script s r × request_condition s a r

-- those of a completion
abbrev pub done_condition : ScriptModel → Bool → State → ℕ → Code → ℕ → Reason → Type 0
done_condition script told s o code size reason.IsWorking = s.reactor.failed ≡ false
done_condition script told s o code size reason.MayTell = MayTell script told s.reactor o code size
done_condition script told s o code size reason.IsInTurn =
    s.reactor.due ≡ [] → IsSome s.context.turn
done_condition script told s o code size _ = Unit {0}

-- those of an idle context, beside the turn's and with them
abbrev pub quiet_condition : ScriptModel → State → Reason → Type 0
quiet_condition script s reason.IsRunning = runs (this_round script s.context) ≡ true
quiet_condition script s reason.AllQuiet = AllQuiet s
quiet_condition script s reason.NoCallIsOpen = NoCallIsOpen s.context
quiet_condition script s reason.HasPending = 1 ≤ pending_count s.reactor
quiet_condition script s _ = Unit {0}

abbrev pub idle_condition : ScriptModel → State → Reason → Type 0
idle_condition script s r = turn_condition script s r × quiet_condition script s r

-- that time moves to this point
abbrev pub time_condition : ScriptModel → State → Point → Reason → Type 0
time_condition script s to reason.IsNextTime = next_time script s.reactor ≡ to
time_condition script s to _ = Unit {0}

abbrev pub tick_condition : ScriptModel → State → Point → Reason → Type 0
tick_condition script s to r = idle_condition script s r × time_condition script s to r

abbrev pub fault_condition : ScriptModel → State → Reason → Type 0
fault_condition script s reason.IsWorking = s.reactor.failed ≡ false
fault_condition script s reason.MayBreakOff =
    (s.context.events ≡ 0) ⊎ MayBreakOff script s
fault_condition script s _ = Unit {0}

-- those of the closings of rounds
abbrev pub ended_condition : ScriptModel → State → Reason → Type 0
ended_condition script s reason.RoundIsOpen = RoundIsOpen script s.context
ended_condition script s reason.IsGoing = s.context.stopped ≡ false
ended_condition script s reason.HasNoWork = outstanding_work s ≡ 0
ended_condition script s _ = Unit {0}

abbrev pub stopped_condition : ScriptModel → State → Reason → Type 0
stopped_condition script s reason.RoundIsOpen = RoundIsOpen script s.context
stopped_condition script s reason.IsStopped = s.context.stopped ≡ true
stopped_condition script s reason.NothingRuns = NothingRuns s.context
stopped_condition script s reason.NoCallIsOpen = NoCallIsOpen s.context
stopped_condition script s reason.NothingIsDue = s.reactor.due ≡ []
stopped_condition script s reason.IsDrained = IsDrained s.reactor
stopped_condition script s reason.IsWorking = s.reactor.failed ≡ false
stopped_condition script s _ = Unit {0}

abbrev pub polled_condition : ScriptModel → State → Reason → Type 0
polled_condition script s reason.RoundIsOpen = RoundIsOpen script s.context
polled_condition script s reason.IsPolling = runs (this_round script s.context) ≡ false
polled_condition script s reason.IsGoing = s.context.stopped ≡ false
polled_condition script s reason.HasWork = 1 ≤ outstanding_work s
polled_condition script s reason.AllQuiet = AllQuiet s
polled_condition script s reason.NothingIsDue = s.reactor.due ≡ []
polled_condition script s reason.IsDrained = IsDrained s.reactor
polled_condition script s _ = Unit {0}

abbrev pub restart_condition : ScriptModel → State → Reason → Type 0
restart_condition script s reason.HasRoundLeft = HasRoundLeft script s.context
restart_condition script s reason.HasRestart = restarts (this_round script s.context) ≡ true
restart_condition script s reason.IsRestartedOnce = s.context.restarted ≡ false
restart_condition script s reason.NothingRuns = NothingRuns s.context
restart_condition script s reason.IsWorking = s.reactor.failed ≡ false
restart_condition script s _ = Unit {0}

-- those of a handler's destruction
abbrev pub drop_condition : ScriptModel → State → ℕ → Reason → Type 0
drop_condition script s o reason.IsOver = IsOver script s
drop_condition script s o reason.IsNextDropped = IsNextDropped s.context o
drop_condition script s o _ = Unit {0}

-- the condition with this name, where the event has it; told says whether the reactor tells its
-- bytes
abbrev pub condition : ScriptModel → Bool → State → Event → Reason → Type 0
condition script told s (event.Call a) r = call_condition script s a r
condition script told s (event.Back a) r = return_condition script s a r
condition script told s (event.Stop (Some a)) r = stop_condition script s a r
condition script told s (event.Stop None) r = outside_stop_condition script s r
condition script told s (event.Begin o code size) r = begin_condition script s o code size r
condition script told s (event.End o mark) r = end_condition script s o r
condition script told s (event.Take a) r = take_condition script s a r
condition script told s (event.Done o code size) r = done_condition script told s o code size r
condition script told s (event.Tick now) r = tick_condition script s (point.Time now) r
condition script told s event.Last r = tick_condition script s point.Last r
condition script told s event.Fault r = fault_condition script s r
condition script told s event.Ended r = ended_condition script s r
condition script told s event.Stopped r = stopped_condition script s r
condition script told s event.Polled r = polled_condition script s r
condition script told s event.Restart r = restart_condition script s r
condition script told s (event.Dropped o mark) r = drop_condition script s o r

-- something may not be, the condition of it with this name doesn't hold, and those before it do
pub record Fails (May : Type 0) (condition_of earlier : Reason → Type 0) (r : Reason) : Type 0 where
  pub illegal : May → ⊥
  pub broken : condition_of r → ⊥
  pub first : earlier r

-- the event may not happen in this state, and this is the first condition of it that doesn't hold there
abbrev pub Breaks : ScriptModel → Bool → State → Event → Reason → Type 0
Breaks script told s event =
    Fails (MayHappen script told s event) (condition script told s event)
    (earlier script told s event)
