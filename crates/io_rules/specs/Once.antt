-- Each handler is called once (Asio reference, Requirements on asynchronous operations): an operation
-- is initiated once, completes at most once, its handler begins at most once, behind its completion,
-- and ends behind that, or is destroyed.
use Rattle.std.specs.Prelude.{◌≡◌, ◌≤◌, ℕ, ◌+◌, List, ◌∷◌, Option}
use Rattle.io_rules.specs.declared.event.Event.{Event}
use Rattle.io_rules.specs.declared.event.Event.TheVariants as event
use Rattle.io_rules.specs.declared.limits.Limits.{Limits}
use Rattle.io_rules.specs.declared.request.Gone.{Gone}
use Rattle.io_rules.specs.declared.request.Request.{Request}
use Rattle.io_rules.specs.History.{begins, calls, completes, drops, ends, is_call, is_over, posts, times}
use Rattle.io_rules.specs.Legal.{IsLegal, IsWhole, state_of}

-- the number of an operation is how many were initiated before it
abbrev pub NumbersRise : Type 0
NumbersRise =
    (limits : Limits) (past : List Event) (op : ℕ) (by : Option ℕ) (request : Request) (gone : Gone) →
    IsLegal limits (event.Called op by request gone ∷ past) → op ≡ times is_call past

-- no number comes twice
abbrev pub CalledOnce : Type 0
CalledOnce =
    (limits : Limits) (past : List Event) → IsLegal limits past → (op : ℕ) →
    times (calls op) past ≤ 1

-- a handler's end, or its destruction, comes at most once, and only where its operation was initiated
abbrev pub OverOnce : Type 0
OverOnce =
    (limits : Limits) (past : List Event) → IsLegal limits past → (op : ℕ) →
    times (is_over op) past ≤ times (calls op) past

-- in a whole history it comes once for each
abbrev pub AllAreOver : Type 0
AllAreOver =
    (limits : Limits) (past : List Event) → IsLegal limits past → IsWhole (state_of limits past) →
    (op : ℕ) → times (is_over op) past ≡ times (calls op) past

-- a handler begins or is destroyed, once, and never both
abbrev pub BegunOrDropped : Type 0
BegunOrDropped =
    (limits : Limits) (past : List Event) → IsLegal limits past → (op : ℕ) →
    times (begins op) past + times (drops op) past ≤ times (calls op) past

-- none ends that hasn't begun
abbrev pub BegunBeforeEnded : Type 0
BegunBeforeEnded =
    (limits : Limits) (past : List Event) → IsLegal limits past → (op : ℕ) →
    times (ends op) past ≤ times (begins op) past

-- none begins whose operation wasn't posted and hasn't completed
abbrev pub ReadyBeforeBegun : Type 0
ReadyBeforeBegun =
    (limits : Limits) (past : List Event) → IsLegal limits past → (op : ℕ) →
    times (begins op) past ≤ times (completes op) past + times (posts op) past

-- an operation completes at most once, and what is posted doesn't complete
abbrev pub CompletedOnce : Type 0
CompletedOnce =
    (limits : Limits) (past : List Event) → IsLegal limits past → (op : ℕ) →
    times (completes op) past + times (posts op) past ≤ times (calls op) past
