-- Places for operations add up, and a handler is never without one (this project's own).
use Rattle.std.specs.Prelude.{◌≡◌, ◌≤◌, ℕ, ◌+◌, true, List, Some, sum_by}
use Rattle.io_rules.specs.declared.event.Event.{Event}
use Rattle.io_rules.specs.declared.event.Event.TheVariants as event
use Rattle.io_rules.specs.declared.limits.Limits.{Limits}
use Rattle.io_rules.specs.declared.request.Request.{Request}
use Rattle.io_rules.specs.Calls.{IsWithin, gone_of}
use Rattle.io_rules.specs.History.{calls_by, times}
use Rattle.io_rules.specs.Legal.{IsLegal, MayHappen, state_of}
use Rattle.io_rules.specs.Ops.{is_at, is_running}
use Rattle.io_rules.specs.Room.{most_numbers, numbers_in, places_in}
use Rattle.io_rules.specs.State.{Op}

-- the free places, and those of all operations with what is granted to their handlers, are those that
-- the context has
abbrev pub PlacesAddUp : Type 0
PlacesAddUp =
    (limits : Limits) (past : List Event) → IsLegal limits past →
    (state_of limits past).room
    + sum_by (λ (op : Op). places_in op.phase) (state_of limits past).ops ≡ limits.operations

-- the numbers that are given and those that are kept for handlers don't come to an end
abbrev pub NumbersSuffice : Type 0
NumbersSuffice =
    (limits : Limits) (past : List Event) → IsLegal limits past →
    (state_of limits past).next
    + sum_by (λ (op : Op). numbers_in op.phase) (state_of limits past).ops ≤ most_numbers

-- a handler that executes and has initiated nothing may initiate an operation, whatever it is
abbrev pub MayInitiateOne : Type 0
MayInitiateOne =
    (limits : Limits) (past : List Event) → IsLegal limits past → (op : ℕ) →
    is_at is_running (state_of limits past).ops op ≡ true → times (calls_by op) past ≡ 0 →
    (request : Request) → IsWithin limits.held request.kind →
    MayHappen (state_of limits past) (event.Called (state_of limits past).next (Some op) request
    (gone_of (state_of limits past) request))
