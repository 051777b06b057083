-- Workers that sleep while nothing is to be done; one of them watches the outside, until the first wait is due.
use Rattle.std.specs.Prelude.{◌≡◌, ◌<◌, ◌≤◌, ◌==◌, ◌&&◌, ◌||◌, ℕ, nat_lt, not, Bool, true, false, Option, Some, None, length}
use Rattle.io_rules.specs.State.{ContextState}
use Rattle.io_rules.specs.Timers.{earliest}
use Rattle.io_timers.specs.Pending.{expiry_by}
use Rattle.io_scheduler.specs.Begun.{NoneMayBegin}
use Rattle.io_scheduler.specs.Tallied.{is_over}
use Rattle.io_context.specs.declared.sleepers.Sleepers.{Sleepers}
use Rattle.io_context.specs.declared.sockets.SocketSet.{SocketSet}
use Rattle.io_context.specs.declared.sleepers.Watch.{Watch}
use Rattle.io_context.specs.declared.sleepers.Watch.TheVariants as watch

-- whether a socket is to be looked at
abbrev pub is_any_listed : {S : Type 0} → SocketSet S → Bool
is_any_listed set = nat_lt 0 (length set.sockets.turns.ring)

-- no handler may begin, no socket is to be looked at, and more may come
pub record IsIdle (s : ContextState) (listed : Bool) : Type 0 where
  pub none : NoneMayBegin s
  pub unlisted : listed ≡ false
  pub going : is_over s ≡ false

-- when the first wait is due that is pending
abbrev pub first_expiry : ContextState → Option ℕ
first_expiry s = expiry_by s.timers (earliest s.timers s.waits)

abbrev pub is_called : Watch → Bool
is_called watch.Called = true
is_called _ = false

abbrev pub watches : Watch → Bool
watches (watch.Until expiry) = true
watches _ = false

-- none is called and not back yet
abbrev pub is_quiet : Sleepers → Bool
is_quiet sleepers = (sleepers.called == 0) && not (is_called sleepers.watch)

-- one sleeps, or watches the outside
abbrev pub is_any : Sleepers → Bool
is_any sleepers = nat_lt 0 sleepers.asleep || watches sleepers.watch

-- whoever watches the outside waits no longer than until the first wait is due
abbrev pub IsInTime : Watch → Option ℕ → Type 0
IsInTime (watch.Until expiry) (Some first) = expiry ≤ first
IsInTime watch first = Unit {0}

-- where some sleep and none is called, there is nothing to do, and one of them watches the outside
pub record SleepWhileIdle (sleepers : Sleepers) (s : ContextState) (listed : Bool) : Type 0 where
  pub idle : is_quiet sleepers ≡ true → is_any sleepers ≡ true → IsIdle s listed
  pub watched : is_quiet sleepers ≡ true → 0 < sleepers.asleep → watches sleepers.watch ≡ true
  pub in_time : IsInTime sleepers.watch (first_expiry s)
