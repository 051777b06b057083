-- When scripted time moves, and when the reactor fails (Asio reference, io_context::run and
-- steady_timer; scripted time is this project's own).
use Rattle.std.specs.Prelude.{◌≡◌, ◌<◌, ◌≤◌, ◌⊎◌, ℕ, ◌+◌, Bool, true, false, nat_lt, min, List, [], ◌∷◌, Option, Some, None, length, map, filter, sum_by, if◌then◌else◌}
use Rattle.asio_types.specs.declared.event.Event.{Event}
use Rattle.asio_types.specs.declared.event.Event.TheVariants as event
use Rattle.asio_types.specs.declared.outside.Point.{Point}
use Rattle.asio_types.specs.declared.outside.Point.TheVariants as point
use Rattle.session_script.specs.Script.{ScriptModel}
use Rattle.stream_rules.specs.World.{next_point, lines_at, perform_lines, streams_at_last, times_after}
use Rattle.history_rules.specs.Order.{was_taken}
use Rattle.history_rules.specs.Requests.{MayTurn}
use Rattle.history_rules.specs.Rounds.{RoundIsOpen, NoCallIsOpen, AllQuiet, runs, this_round}
use Rattle.history_rules.specs.Settling.{settled, expiry_of}
use Rattle.history_rules.specs.State.{State, ContextState, ReactorHalf, counted}

-- how many operations are pending, those that are due among them
abbrev pub pending_count : ReactorHalf → ℕ
pending_count r =
    length r.waits + sum_by (λ queues. length queues.reads + length queues.writes) r.queues
    + length r.due

-- the lesser of a number and of what may be there
abbrev pub lesser : ℕ → Option ℕ → Option ℕ
lesser x None = Some x
lesser x (Some y) = Some (min x y)

abbrev pub least_of : List ℕ → Option ℕ
least_of [] = None
least_of (x ∷ xs) = lesser x (least_of xs)

-- the next expiry of a wait that is pending
abbrev pub next_expiry : ReactorHalf → Option ℕ
next_expiry r = least_of (filter (λ expiry. nat_lt r.now expiry) (map (expiry_of r) r.waits))

-- the least time point above now: a time of the world, or the expiry of a pending wait; or that
-- there is none
abbrev pub next_time : ScriptModel → ReactorHalf → Point
next_time script r = next_point (next_expiry r) (times_after r.now script.world.lines)

-- nothing is left to do but to wait for the outside
pub record IsIdle (script : ScriptModel) (s : State) : Type 0 where
  pub turn : MayTurn script s
  pub runs : runs (this_round script s.context) ≡ true
  pub quiet : AllQuiet s
  pub back : NoCallIsOpen s.context
  pub pending : 1 ≤ pending_count s.reactor

-- time moves to the next time point
pub record MayTick (script : ScriptModel) (s : State) (now : ℕ) : Type 0 where
  pub idle : IsIdle script s
  pub next : next_time script s.reactor ≡ point.Time now

-- the last time point has passed
pub record MayDrain (script : ScriptModel) (s : State) : Type 0 where
  pub idle : IsIdle script s
  pub next : next_time script s.reactor ≡ point.Last

-- the lines of the new time are performed, where bytes are told
abbrev pub at_time : ScriptModel → Bool → ℕ → ReactorHalf → ReactorHalf
at_time script told now r =
    record r {
      now = now;
      streams =
          if told then perform_lines (lines_at now script.world.lines) r.streams else r.streams;
    }

abbrev pub reactor_after_tick : ScriptModel → Bool → ReactorHalf → ℕ → ReactorHalf
reactor_after_tick script told r now = settled told (at_time script told now r)

-- each side of a stream without a mark gets its own, where bytes are told
abbrev pub at_last : Bool → ReactorHalf → ReactorHalf
at_last told r = record r {
  last = true;
  streams = if told then streams_at_last r.streams else r.streams;
}

abbrev pub reactor_after_last : Bool → ReactorHalf → ReactorHalf
reactor_after_last told r = settled told (at_last told r)

-- a turn of the reactor breaks off before any of it was told, or there is none
pub record MayBreakOff (script : ScriptModel) (s : State) : Type 0 where
  pub round : RoundIsOpen script s.context
  pub untouched : (s.reactor.whole_turn ≡ true) ⊎ (s.reactor.due ≡ [])

-- the reactor fails once: when it is set up, or in an open round
pub record MayFault (script : ScriptModel) (s : State) : Type 0 where
  pub once : s.reactor.failed ≡ false
  pub when : (s.context.events ≡ 0) ⊎ MayBreakOff script s

-- the reactor's turn is over, and the context is stopped
abbrev pub context_after_fault : ContextState → ContextState
context_after_fault s = counted (record s { stopped = true; turn = None })

abbrev pub reactor_after_fault : ReactorHalf → ReactorHalf
reactor_after_fault r = record r { failed = true; due = [] }

-- what the reactor needs of an event: an act that it takes is there and wasn't taken, and time
-- moves to the next time point
abbrev pub CanTurn : ScriptModel → ReactorHalf → Event → Type 0
CanTurn script r (event.Take a) = (a < length script.acts) × (was_taken r a ≡ false)
CanTurn script r (event.Tick now) = next_time script r ≡ point.Time now
CanTurn script r _ = Unit {0}
