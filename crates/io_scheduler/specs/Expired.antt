-- A wait completes because its timer's expiry has passed.
use Rattle.std.specs.Prelude.{◌≡◌, ℕ, ◌==◌, ◌∷◌, ◌++◌, not, Bool, true, false, List, [], None}
use Rattle.std.specs.List.{filter}
use Rattle.asio_types.specs.declared.code.Code.{Code}
use Rattle.asio_types.specs.declared.code.Code.TheVariants as code
use Rattle.io_rules.specs.declared.event.Event.{Event}
use Rattle.io_rules.specs.declared.event.Event.TheVariants as event
use Rattle.io_rules.specs.declared.limits.Limits.{Limits}
use Rattle.io_rules.specs.declared.name.Lane.{Lane}
use Rattle.io_rules.specs.declared.op.Wait.{Wait}
use Rattle.io_rules.specs.Completing.{others_than}
use Rattle.io_rules.specs.Legal.{MayHappen, state_of}
use Rattle.io_rules.specs.State.{ContextState}
use Rattle.io_rules.specs.Timers.{due}
use Rattle.io_scheduler.specs.Come.{HaveCome, completions}
use Rattle.io_scheduler.specs.Completed.{completed_state}

-- the wait that was due first has completed
pub record HasExpired (limits : Limits) (old new : List Event) : Type 0 where
  pub op : ℕ
  pub may : MayHappen (state_of limits old) (event.Done op code.Ok 0)
  pub is : new ≡ event.Done op code.Ok 0 ∷ old

-- one has, or none is due and nothing has changed
abbrev pub IsExpiredIf : Bool → Limits → List Event → List Event → Type 0
IsExpiredIf true limits old new = HasExpired limits old new
IsExpiredIf false limits old new = (due (state_of limits old) ≡ None) × (new ≡ old)

-- waits have completed because they were due, and nothing else has happened
pub record HaveExpired (limits : Limits) (old new : List Event) : Type 0 where
  pub ops : List ℕ
  pub come : HaveCome limits (completions code.Ok ops) old new

-- the clock has come to this time, and what was due then has completed
pub record HasPassed (limits : Limits) (now : ℕ) (old new : List Event) : Type 0 where
  pub ops : List ℕ
  pub come : HaveCome limits (event.Passed now ∷ completions code.Ok ops) old new

-- what is left to be done, and what waits, behind it
abbrev pub left_settled : ℕ → List ℕ → List ℕ
left_settled n settled = others_than n settled ++ [] ++ [] ++ []

abbrev pub left_waits : ℕ → List Wait → List Wait
left_waits n waits = filter (λ wait. not (wait.op == n)) waits

abbrev pub wait_done : ℕ → Code → Lane → ContextState → ContextState
wait_done n code on s = completed_state n code 0 on (left_settled n s.settled) (left_waits n s.waits) s
