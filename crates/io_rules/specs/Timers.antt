-- Timers: which wait completes next (Asio reference, basic_waitable_timer::async_wait: a wait
-- completes once its timer's expiry has passed).
use Rattle.std.specs.Prelude.{ℕ, nat_le, List, [], ◌∷◌, Option, Some, None, if◌then◌else◌}
use Rattle.io_rules.specs.State.{ContextState, TimerState, Wait, timer_at}

abbrev pub expiry_of : List TimerState → Wait → ℕ
expiry_of timers wait = (timer_at timers wait.timer).expiry

abbrev pub earlier : List TimerState → Wait → Option Wait → Wait
earlier timers wait None = wait
earlier timers wait (Some other) =
    if nat_le (expiry_of timers wait) (expiry_of timers other) then wait else other

-- the wait with the least expiry, and of these the first one that was accepted
abbrev pub earliest : List TimerState → List Wait → Option Wait
earliest timers [] = None
earliest timers (wait ∷ waits) = Some (earlier timers wait (earliest timers waits))

abbrev pub due_by : List TimerState → ℕ → Option Wait → Option ℕ
due_by timers now None = None
due_by timers now (Some wait) = if nat_le (expiry_of timers wait) now then Some wait.op else None

-- the wait that completes next, if one is due
abbrev pub due : ContextState → Option ℕ
due s = due_by s.timers s.now (earliest s.timers s.waits)
