-- The operations that wait.
use Rattle.std.specs.Prelude.{ℕ, Option, nat_eq}
use Rattle.std.specs.HashMap.{get}
use Rattle.run_check.specs.declared.waiting.Waiter.{Waiter}
use Rattle.run_check.specs.declared.waiting.Waiting.{Waiting}

abbrev pub waiting_at : Waiting → ℕ → Option Waiter
waiting_at kept op = get nat_eq kept.operations op
