-- What a proactor keeps apart from its streams, and what its calls make of that (Asio reference,
-- steady_timer; cancellation_slot; executor_work_guard; Overview, "The Proactor Design Pattern").
use Rattle.std.specs.Prelude.{ℕ, ◌+◌, ◌∷◌, ◌++◌, ◌==◌, Bool, true, false, List, [], Option, Some, None, find, length, map, if◌then◌else◌}
use Rattle.std.specs.List.{slice_set}
use Rattle.std.specs.Option.{option_map}
use Rattle.asio_types.specs.Faults.{one_more}
use Rattle.asio_types.specs.declared.outside.Point.{Point}
use Rattle.asio_types.specs.declared.outside.Point.TheVariants as point
use Rattle.cancel_slots.specs.declared.connection.Connection.{Connection}
use Rattle.cancel_slots.specs.Slots.{connection_of}
use Rattle.history_rules.specs.Performing.{is_wait_for, is_wait_of}
use Rattle.history_rules.specs.State.{ReactorHalf}
use Rattle.proactor_core.specs.Due.{Due, listed}
use Rattle.proactor_core.specs.Waits.{Waiting, abort_of_one, aborts, expired, has_expired, without, without_one}

pub record TableState : Type 0 where
  -- for each act whether it was taken
  pub taken : List Bool
  -- how many were taken
  pub accepted : ℕ
  -- scripted time
  pub time : ℕ
  -- the timers and what waits for them
  pub waiting : Waiting
  -- for each slot what is connected to it
  pub slots : List (Option Connection)
  -- for each guard whether it holds the context
  pub guards : List Bool
  -- whether the last time point has passed
  pub last : Bool
  -- whether the reactor has failed
  pub failed : Bool
  -- what has completed and wasn't told yet
  pub due : Due

-- a wait is pending
abbrev pub wait_begun : ℕ → ℕ → TableState → TableState
wait_begun op timer s = record s {
  waiting = record s.waiting {
    waits = s.waiting.waits ++ record { op = op; timer = timer } ∷ [];
    accepted = s.waiting.accepted + 1;
  };
}

-- an operation is connected to its slot with these cancellation types, if it has one
abbrev pub slot_taken : Option ℕ → ℕ → ℕ → TableState → TableState
slot_taken None op types s = s
slot_taken (Some slot) op types s =
    record s { slots = slice_set s.slots slot (Some (record { op = op; supported = types })) }

-- a timer gets this expiry
abbrev pub timer_set : ℕ → ℕ → TableState → TableState
timer_set timer expiry s = record s {
  waiting =
      record (without (is_wait_of timer) s.waiting)
      { expiries = slice_set s.waiting.expiries timer expiry };
  due = listed (aborts (is_wait_of timer) s.waiting) s.due;
}

-- the waits of a timer are cancelled
abbrev pub timer_cancelled : ℕ → TableState → TableState
timer_cancelled timer s = record s {
  waiting = without (is_wait_of timer) s.waiting;
  due = listed (aborts (is_wait_of timer) s.waiting) s.due;
}

-- the first wait of a timer is cancelled
abbrev pub first_cancelled : ℕ → TableState → TableState
first_cancelled timer s = record s {
  waiting = without_one (find (is_wait_of timer) s.waiting.waits) s.waiting;
  due = listed (abort_of_one (find (is_wait_of timer) s.waiting.waits) s.waiting) s.due;
}

-- the wait of an operation is cancelled
abbrev pub wait_cancelled : ℕ → TableState → TableState
wait_cancelled op s = record s {
  waiting = without (is_wait_for op) s.waiting;
  due = listed (aborts (is_wait_for op) s.waiting) s.due;
}

-- time moved to this point
abbrev pub point_passed : Point → TableState → TableState
point_passed (point.Time now) s = record s { time = now }
point_passed point.Last s = record s { last = true }

-- a guard holds the context no more
abbrev pub guard_gone : ℕ → TableState → TableState
guard_gone guard s = record s { guards = slice_set s.guards guard false }

-- an act was taken
abbrev pub act_taken : ℕ → TableState → TableState
act_taken a s = record s { taken = slice_set s.taken a true; accepted = one_more s.accepted }

-- the waits complete whose timers have expired
abbrev pub waits_completed : TableState → TableState
waits_completed s = record s {
  waiting = without (has_expired s.time s.waiting.expiries) s.waiting;
  due = listed (expired s.time s.waiting) s.due;
}

-- what an operation leaves connected to its slot
abbrev pub left_by : ℕ → Option Connection → Option Connection
left_by op None = None
left_by op (Some there) = if there.op == op then None else Some there

-- an operation leaves its slot, unless another has replaced it there
abbrev pub slot_left : Option ℕ → ℕ → TableState → TableState
slot_left None op s = s
slot_left (Some slot) op s =
    record s { slots = slice_set s.slots slot (left_by op (connection_of s.slots slot)) }

-- the reactor has failed, and nothing of its turn is told
abbrev pub reactor_lost : TableState → TableState
reactor_lost s = record s {
  failed = true;
  due = record { coming = []; spare = s.due.spare + length s.due.coming };
}

abbrev pub op_in : Option Connection → Option ℕ
op_in there = option_map (λ (c : Connection). c.op) there

-- a half of a state with what the tables have; its streams and their operations are its own
abbrev pub with_tables : TableState → ReactorHalf → ReactorHalf
with_tables s half = record half {
  taken = s.taken;
  accepted = s.accepted;
  now = s.time;
  expiries = s.waiting.expiries;
  waits = s.waiting.waits;
  slots = map op_in s.slots;
  guards = s.guards;
  last = s.last;
  failed = s.failed;
  due = s.due.coming;
}
