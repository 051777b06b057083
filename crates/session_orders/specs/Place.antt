-- Which events may come next, as a list with places: eight for each act, and eight for the events that
-- belong to no act. Where bytes are untold a completion has a place for each operation, code and
-- size behind these.
use Rattle.std.specs.Prelude.{ℕ, ◌<◌, ◌+◌, ◌-◌, ◌*◌, ◌/◌, ◌%◌, ◌==◌, nat_lt, nat_le, Bool, not, ◌&&◌, Option, Some, None, length, if◌then◌else◌}
use Rattle.std.specs.List.{slice_get}
use Rattle.asio_types.specs.declared.code.Code.{Code}
use Rattle.asio_types.specs.declared.code.Code.TheVariants as code
use Rattle.asio_types.specs.declared.event.Event.{Event}
use Rattle.asio_types.specs.declared.event.Event.TheVariants as event
use Rattle.asio_types.specs.declared.outside.Point.{Point}
use Rattle.asio_types.specs.declared.outside.Point.TheVariants as point
use Rattle.history_rules.specs.State.{ReactorHalf, State, phase_at}
use Rattle.history_rules.specs.Time.{next_time}
use Rattle.history_rules.specs.declared.phase.ActPhase.{ActPhase}
use Rattle.history_rules.specs.declared.phase.ActPhase.TheVariants as phase
use Rattle.session_script.specs.declared.act.Act.{Act}
use Rattle.session_script.specs.declared.act.Act.TheVariants as act
use Rattle.session_script.specs.Script.{ScriptModel, act_of}
use Rattle.session_orders.specs.Order.{mark_of}
use Rattle.session_orders.specs.declared.bounds.ReactorKind.{ReactorKind}
use Rattle.stream_rules.specs.declared.queue.Completion.{Completion}

-- how many bytes an operation may move at most
abbrev pub asked_by : Act → ℕ
asked_by (act.ReadSome stream size strand slot filter) = size
asked_by (act.ReadAll stream size strand slot filter) = size
asked_by (act.Until stream delimiter max strand slot filter) = max
asked_by (act.WriteSome stream bytes strand slot filter) = length bytes
asked_by (act.WriteAll stream bytes strand slot filter) = length bytes
asked_by _ = 0

abbrev pub asked_in : Option Act → ℕ
asked_in None = 0
asked_in (Some act) = asked_by act

abbrev pub asked_of : ScriptModel → ℕ → ℕ
asked_of script op = asked_in (act_of script op)

-- no operation of a script moves as many bytes
abbrev pub sizes : ℕ
sizes = 16385

abbrev pub AllFit : ScriptModel → Type 0
AllFit script = (op : ℕ) → asked_of script op < sizes

-- where bytes are untold, a completion of an act of the script has a place of its own, unless it
-- moves more than was asked for
abbrev pub has_own : ScriptModel → ReactorKind → ℕ → ℕ → Bool
has_own script kind op size =
    not kind.told && (nat_lt op (length script.acts) && nat_le size (asked_of script op))

-- codes have the numbers of their order
abbrev pub number_of : Code → ℕ
number_of code.Ok = 0
number_of code.Aborted = 1
number_of code.Eof = 2
number_of code.NotFound = 3
number_of code.Bad = 4
number_of code.Broken = 5
number_of code.Reset = 6

abbrev pub code_with : ℕ → Code
code_with n =
    if n == 0 then code.Ok else (if n == 1 then code.Aborted else (if n == 2 then code.Eof
    else (if n == 3 then code.NotFound else (if n == 4 then code.Bad
    else (if n == 5 then code.Broken else code.Reset)))))

-- where the places of completions begin
abbrev pub base_of : ScriptModel → ℕ
base_of script = 8 * (length script.acts + 1)

-- the act of an event, and behind all acts the row of the events that belong to none
abbrev pub row_of : ScriptModel → Event → ℕ
row_of script (event.Call act) = act
row_of script (event.Back act) = act
row_of script (event.Stop (Some act)) = act
row_of script (event.Begin op code size) = op
row_of script (event.End op mark) = op
row_of script (event.Take act) = act
row_of script (event.Dropped op mark) = op
row_of script _ = length script.acts

-- which of its row
abbrev pub column_of : Event → ℕ
column_of (event.Call act) = 0
column_of (event.Back act) = 1
column_of (event.Stop (Some act)) = 2
column_of (event.Begin op code size) = 3
column_of (event.End op mark) = 4
column_of (event.Take act) = 5
column_of (event.Dropped op mark) = 6
column_of (event.Done op code size) = 0
column_of (event.Tick now) = 1
column_of event.Last = 2
column_of event.Fault = 3
column_of event.Ended = 4
column_of event.Stopped = 5
column_of event.Polled = 6
column_of event.Restart = 7
column_of (event.Stop None) = 7

-- the place of a completion with this code and size among those of its own
abbrev pub own_place : ScriptModel → ℕ → Code → ℕ → ℕ
own_place script op code size = base_of script + (7 * op + number_of code) * sizes + size

abbrev pub place_of : ScriptModel → ReactorKind → Event → ℕ
place_of script kind (event.Done op code size) =
    if has_own script kind op size then own_place script op code size
    else 8 * length script.acts
place_of script kind event = 8 * row_of script event + column_of event

-- how many places there are
abbrev pub places_of : ScriptModel → ReactorKind → ℕ
places_of script kind =
    if kind.told then base_of script else base_of script + 7 * length script.acts * sizes

-- how a handler may begin
abbrev pub begin_in : ActPhase → ℕ → Option Event
begin_in (phase.Ready code size cause) op = Some (event.Begin op code size)
begin_in phase.Inside op = Some (event.Begin op code.Ok 0)
begin_in _ op = None

-- the event of an act in a column
abbrev pub act_event : State → ℕ → ℕ → Option Event
act_event s act column =
    if column == 0 then Some (event.Call act)
    else (if column == 1 then Some (event.Back act)
    else (if column == 2 then Some (event.Stop (Some act))
    else (if column == 3 then begin_in (phase_at s.context act) act
    else (if column == 4 then Some (event.End act (mark_of act))
    else (if column == 5 then Some (event.Take act)
    else (if column == 6 then Some (event.Dropped act (mark_of act)) else None))))))

-- how what is due next is told, unless that has a place of its own
abbrev pub done_in : ScriptModel → ReactorKind → Option Completion → Option Event
done_in script kind None = None
done_in script kind (Some next) =
    if has_own script kind next.op next.outcome.1 then None
    else Some (event.Done next.op next.outcome.0 next.outcome.1)

-- how time moves next
abbrev pub tick_in : Point → Option Event
tick_in (point.Time now) = Some (event.Tick now)
tick_in point.Last = None

-- the event of no act in a column
abbrev pub other_event : ScriptModel → ReactorKind → ReactorHalf → ℕ → Option Event
other_event script kind r column =
    if column == 0 then done_in script kind (slice_get r.due 0)
    else (if column == 1 then tick_in (next_time script r)
    else (if column == 2 then Some event.Last
    else (if column == 3 then (if kind.failing then Some event.Fault else None)
    else (if column == 4 then Some event.Ended
    else (if column == 5 then Some event.Stopped
    else (if column == 6 then Some event.Polled else Some event.Restart))))))

-- the completion with a place of its own
abbrev pub own_event : ScriptModel → ℕ → Option Event
own_event script n =
    let op = n / sizes / 7 in
    let size = n % sizes in
    if nat_le size (asked_of script op) then Some (event.Done op (code_with (n / sizes % 7)) size)
    else None

-- the event that may come next at a place, if any may
abbrev pub event_at : ScriptModel → ReactorKind → State → ℕ → Option Event
event_at script kind s place =
    if nat_lt (place / 8) (length script.acts) then act_event s (place / 8) (place % 8)
    else (if nat_lt place (base_of script) then other_event script kind s.reactor (place % 8)
    else own_event script (place - base_of script))
