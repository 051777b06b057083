-- Timers and the waits that are pending on them (Asio reference, basic_waitable_timer).
use Rattle.std.specs.Prelude.{◌≡◌, ℕ, ◌+◌, ◌-◌, ◌==◌, cond, not, Bool, List, [], ◌∷◌, ◌++◌, Option, Some, None, filter, map, replicate}
use Rattle.io_rules.specs.declared.name.Name.{Name}
use Rattle.io_rules.specs.Names.{same_name}
use Rattle.io_rules.specs.declared.op.Wait.{Wait}
use Rattle.io_rules.specs.State.{TimerState, new_timer, with_timer}
use Rattle.io_rules.specs.Timers.{earliest, expiry_of}
-- what is pending, and at which place
pub use Rattle.io_queues.specs.Queued.{Entry}
use Rattle.io_timers.specs.declared.pending.PendingWait.{PendingWait}

pub record Timers (T : Type 0) : Type 0 where
  -- by place
  pub timers : List TimerState
  -- in order of acceptance
  pub waits : List (Entry (PendingWait T))
  -- how many more there is room for
  pub room : ℕ

abbrev pub number_of : {T : Type 0} → Entry (PendingWait T) → ℕ
number_of wait = wait.item.op

abbrev pub timer_with : ℕ → TimerState
timer_with at = record { expiry = at }

-- as the rules have it
abbrev pub wait_of : {T : Type 0} → Entry (PendingWait T) → Wait
wait_of wait = record { op = wait.item.op; timer = wait.item.timer }

abbrev pub no_waits : {T : Type 0} → ℕ → ℕ → Timers T
no_waits timers room =
    record { timers = replicate timers new_timer; waits = []; room = room }

-- one more is pending
abbrev pub with_wait : {T : Type 0} → Entry (PendingWait T) → Timers T → Timers T
with_wait wait s = record s { waits = s.waits ++ wait ∷ []; room = s.room - 1 }

abbrev pub is_other : {T : Type 0} → ℕ → Entry (PendingWait T) → Bool
is_other op wait = not (wait.item.op == op)

-- the wait of this operation is out
abbrev pub without_wait : {T : Type 0} → ℕ → Timers T → Timers T
without_wait op s = record s { waits = filter (is_other op) s.waits; room = s.room + 1 }

abbrev pub with_expiry : {T : Type 0} → Name → ℕ → Timers T → Timers T
with_expiry timer at s =
    record s { timers = with_timer timer (record { expiry = at }) s.timers }

-- it is a wait of this timer
abbrev pub is_of : {T : Type 0} → Name → Entry (PendingWait T) → Bool
is_of timer wait = same_name wait.item.timer timer

-- the waits of a timer
abbrev pub waits_on : {T : Type 0} → Name → List (Entry (PendingWait T)) → List (Entry (PendingWait T))
waits_on timer waits = filter (is_of timer) waits

-- each wait at the place of this timer is a wait of this timer
abbrev pub IsOnly : {T : Type 0} → Name → List (Entry (PendingWait T)) → Type 0
IsOnly timer [] = Unit {0}
IsOnly timer (wait ∷ waits) =
    ((wait.item.timer.place == timer.place) ≡ is_of timer wait) × IsOnly timer waits

-- the first of these
abbrev pub first_in : {T : Type 0} → List (Entry (PendingWait T)) → Option (PendingWait T)
first_in [] = None
first_in (wait ∷ waits) = Some wait.item

-- the one with this number
abbrev pub numbered_in : {T : Type 0} → ℕ → List (Entry (PendingWait T)) → Option (PendingWait T)
numbered_in op [] = None
numbered_in op (wait ∷ waits) =
    cond (wait.item.op == op) (Some wait.item) (numbered_in op waits)

-- the wait that completes next
abbrev pub next_wait : {T : Type 0} → Timers T → Option Wait
next_wait s = earliest s.timers (map wait_of s.waits)

abbrev pub expiry_by : List TimerState → Option Wait → Option ℕ
expiry_by timers None = None
expiry_by timers (Some wait) = Some (expiry_of timers wait)

abbrev pub op_by : Option Wait → Option ℕ
op_by None = None
op_by (Some wait) = Some wait.op
