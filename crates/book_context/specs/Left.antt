-- How many more events a session may have: what each act may still show, and time points, rounds
-- and a failure of the reactor.
use Rattle.std.specs.Prelude.{◌≤◌, ℕ, ◌+◌, ◌*◌, ◌-◌, Bool, length, sum_by, if◌then◌else◌}
use Rattle.std.specs.List.{range_with_len}
use Rattle.session_script.specs.Script.{ScriptModel}
use Rattle.stream_rules.specs.World.{times_after}
use Rattle.history_rules.specs.declared.phase.ActPhase.{ActPhase}
use Rattle.history_rules.specs.declared.phase.ActPhase.TheVariants as phase
use Rattle.history_rules.specs.declared.phase.CallPhase.{CallPhase}
use Rattle.history_rules.specs.declared.phase.CallPhase.TheVariants as call
use Rattle.history_rules.specs.Order.{was_taken}
use Rattle.history_rules.specs.State.{State, call_at, first_state, phase_at}
use Rattle.reactor_turns.specs.Ahead.{one_unless}

-- an operation that is ready begins and ends; one that was taken is told before, and a request is
-- taken before that. That a wait's expiry may take a tick is counted with the waits
abbrev pub phase_left : ActPhase → Bool → ℕ
phase_left phase.Absent taken = 0
phase_left phase.Inside taken = 2
phase_left phase.Requested taken = if taken then 3 else 5
phase_left (phase.Ready code size why) taken = 2
phase_left (phase.Running class progress) taken = 1
phase_left phase.Ended taken = 0
phase_left phase.Dropped taken = 0
phase_left phase.Asked taken = if taken then 0 else 1

-- an act that wasn't called is called and comes back, and shows at most five events more
abbrev pub act_left : CallPhase → ActPhase → Bool → ℕ
act_left call.Uncalled phase taken = 7
act_left made phase taken = phase_left phase taken

abbrev pub act_left_at : State → ℕ → ℕ
act_left_at s n = act_left (call_at s.context n) (phase_at s.context n) (was_taken s.reactor n)

-- a round is closed once, and restarted at most once; a restart lets the context be stopped from
-- outside once more
abbrev pub rounds_left : ℕ → Bool → ℕ
rounds_left rounds restarted = rounds + 2 * (if restarted then rounds - 1 else rounds)

-- each event of an act, of a time point and of a round, a failure, and a stop from outside, which
-- comes where the context isn't stopped
abbrev pub events_left : ScriptModel → State → ℕ
events_left script s =
    sum_by (act_left_at s) (range_with_len 0 (length s.context.acts))
    + length s.reactor.waits
    + length (times_after s.reactor.now script.world.lines)
    + one_unless s.reactor.last
    + one_unless s.reactor.failed
    + one_unless s.context.stopped
    + rounds_left (length script.rounds - s.context.closings) s.context.restarted

-- for how many events a session needs room
abbrev pub most_history : ScriptModel → ℕ
most_history script =
    7 * length script.acts + length script.world.lines + 3 * length script.rounds + 3

-- that many are left before the first event
abbrev pub SessionsAreBounded : Type 0
SessionsAreBounded =
    (script : ScriptModel) (told : Bool) →
    events_left script (first_state script told) ≤ most_history script
