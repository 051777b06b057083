-- The line that names a condition: its heading, its name, and what it wants.
use Rattle.std.specs.Prelude.{ℕ, List, ◌++◌, codes}
use Rattle.history_book.specs.Trace.{line_end}
use Rattle.trace_show.specs.declared.reason.Reason.{Reason}
use Rattle.trace_show.specs.declared.reason.Reason.TheVariants as reason

abbrev pub rule_words : Reason → List ℕ
rule_words reason.MayCall = codes "Calls, MayCall: a body makes this call next"
rule_words reason.MayReturn = codes "Calls, MayReturn: the call has done all that it does"
rule_words reason.MayStop =
    codes "Calls, MayStop: the act is a stop whose call is open and hasn't stopped the context"
rule_words reason.RoundIsOpen = codes "Rounds, RoundIsOpen: a round is open"
rule_words reason.MayBeginInside =
    codes "Executions, MayBeginInside: a dispatch begins inside its call, with ok 0"
rule_words reason.IsReady =
    codes "Executions, IsReady: the handler is ready with this code and size"
rule_words reason.LaneIsFree = codes "Executions, LaneIsFree: nothing of its lane runs"
rule_words reason.IsFirstOfLane =
    codes "Order, IsFirstOfLane: no ready handler of its lane goes before it"
rule_words reason.MayStart = codes "Stopping, MayStart: its lane may still begin something"
rule_words reason.MayEnd = codes "Executions, MayEnd: all calls of the branch are back"
rule_words reason.IsWorking = codes "Time, IsWorking: the reactor hasn't failed"
rule_words reason.NothingIsDue = codes "Requests, NothingIsDue: nothing is due"
rule_words reason.IsDrained =
    codes "Untold bytes, IsDrained: after `last` no operation of a stream is left"
rule_words reason.IsUntaken = codes "Requests, IsUntaken: the act is a request that wasn't taken"
rule_words reason.IsFirstRequest = codes "Order, IsFirstRequest: no request goes before it"
rule_words reason.MayTell =
    codes "What completes, MayTell: the operation completes next, with this code and size"
rule_words reason.IsInTurn = codes "What completes, IsInTurn: a turn of the reactor goes on"
rule_words reason.IsRunning = codes "Time, IsRunning: the round is one of `run`"
rule_words reason.AllQuiet =
    codes "Time, AllQuiet: no handler is ready or runs, and no request waits"
rule_words reason.NoCallIsOpen = codes "Time, NoCallIsOpen: no call is open"
rule_words reason.HasPending = codes "Time, HasPending: something is pending"
rule_words reason.IsNextTime = codes "Time, IsNextTime: time moves to the next time point"
rule_words reason.MayBreakOff =
    codes "Time, MayBreakOff: the turn that fails hasn't told anything or has told all"
rule_words reason.IsGoing = codes "Rounds, IsGoing: the context isn't stopped"
rule_words reason.HasNoWork = codes "Rounds, HasNoWork: nothing is outstanding"
rule_words reason.IsStopped = codes "Rounds, IsStopped: the context is stopped"
rule_words reason.NothingRuns = codes "Rounds, NothingRuns: no handler runs"
rule_words reason.IsPolling = codes "Rounds, IsPolling: the round is one of `poll`"
rule_words reason.HasWork = codes "Rounds, HasWork: something is outstanding"
rule_words reason.HasRoundLeft =
    codes "Rounds, HasRoundLeft: the calls of `open` are back, and not all rounds are closed"
rule_words reason.HasRestart = codes "Rounds, HasRestart: the round has a `restart`"
rule_words reason.IsRestartedOnce =
    codes "Rounds, IsRestartedOnce: the `restart` of the round hasn't come"
rule_words reason.IsOver =
    codes "Rounds, IsOver: all rounds are closed, or the reactor failed and nothing runs"
rule_words reason.IsNextDropped =
    codes "Rounds, IsNextDropped: it is the least operation whose handler is left"

abbrev pub rule_line : Reason → List ℕ
rule_line r = codes "rule: " ++ rule_words r ++ line_end
