-- In which order waits complete (Asio reference, basic_waitable_timer::async_wait: a wait completes once its
-- timer's expiry has passed).
use Rattle.std.specs.Prelude.{◌≡◌, ◌<◌, ◌≤◌, ℕ, List, ◌∷◌, ◌++◌}
use Rattle.asio_types.specs.declared.code.Code.{Code}
use Rattle.io_rules.specs.declared.op.Wait.{Wait}
use Rattle.io_rules.specs.Completing.{MayExpire}
use Rattle.io_rules.specs.State.{ContextState, TimerState}
use Rattle.io_rules.specs.Timers.{expiry_of}
use Rattle.io_timers.specs.Kept.{Each}

-- this operation's wait has expired; of all that are pending, those that were accepted before it expire later,
-- and those that were accepted behind it expire no earlier
pub record IsDueFirst (timers : List TimerState) (now : ℕ) (waits : List Wait) (op : ℕ) : Type 0 where
  pub wait : Wait
  pub front : List Wait
  pub rest : List Wait
  pub is_op : wait.op ≡ op
  pub is_due : expiry_of timers wait ≤ now
  pub parts : waits ≡ front ++ wait ∷ rest
  pub before : Each (λ other. expiry_of timers wait < expiry_of timers other) front
  pub behind : Each (λ other. expiry_of timers wait ≤ expiry_of timers other) rest

-- a wait that completes by its expiry comes before all that are pending with it
abbrev pub CompleteByExpiry : Type 0
CompleteByExpiry =
    (s : ContextState) (op : ℕ) (given : Code) (size : ℕ) → MayExpire s op given size →
    IsDueFirst s.timers s.now s.waits op
