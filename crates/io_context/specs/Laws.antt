-- What is so of the history of a context that was finished.
use Rattle.std.specs.Prelude.{◌≡◌, ◌≤◌, ℕ, ◌+◌, true, List, ◌∷◌, ◌++◌}
use Rattle.asio_types.specs.declared.code.Code.{Code}
use Rattle.asio_types.specs.declared.code.Code.TheVariants as code
use Rattle.io_rules.specs.declared.event.Event.{Event}
use Rattle.io_rules.specs.declared.event.Event.TheVariants as event
use Rattle.io_rules.specs.declared.limits.Limits.{Limits}
use Rattle.io_rules.specs.declared.name.Lane.TheVariants as lane
use Rattle.io_rules.specs.declared.name.Name.{Name}
use Rattle.io_rules.specs.declared.spares.Spares.{Spares}
use Rattle.io_rules.specs.History.{begins, begun_in, calls, drops, ends, is_begin, is_over, is_restart, is_stop, lane_in, ready_in, times}
use Rattle.io_rules.specs.InOrder.{strand_of}
use Rattle.io_rules.specs.Legal.{state_of}
use Rattle.io_rules.specs.Ops.{is_at, is_pending}
use Rattle.io_timers.specs.DueFirst.{IsDueFirst}

-- where a handler of a strand began, each handler of it that had begun had ended
abbrev pub AreAlone : List Event → Type 0
AreAlone past =
    (since before : List Event) (op other : ℕ) (spares : Spares) (strand : Name) →
    past ≡ since ++ (event.Begun op spares ∷ before) → lane_in before op ≡ lane.Strand strand →
    lane_in before other ≡ lane.Strand strand →
    times (begins other) before ≡ times (ends other) before

-- what became ready on a strand is what began on it, in this order, and then what never began
abbrev pub AreInOrder : Limits → List Event → Type 0
AreInOrder limits past =
    (strand : Name) →
    ready_in strand past ≡ begun_in strand past ++ (strand_of (state_of limits past) strand).queue

-- between a stop and the next restart none began
abbrev pub NoneBeginsStopped : List Event → Type 0
NoneBeginsStopped past =
    (later since before : List Event) (stop : Event) → past ≡ later ++ (since ++ (stop ∷ before)) →
    is_stop stop ≡ true → times is_restart since ≡ 0 → times is_begin since ≡ 0

-- a wait that wasn't cancelled completes with Ok, once it has expired, and before all that expire later or were
-- accepted later
abbrev pub WaitsAreDue : Limits → List Event → Type 0
WaitsAreDue limits past =
    (since before : List Event) (op size : ℕ) (given : Code) →
    past ≡ since ++ (event.Done op given size ∷ before) →
    is_at is_pending (state_of limits before).ops op ≡ true →
    (given ≡ code.Ok)
    × IsDueFirst (state_of limits before).timers (state_of limits before).now (state_of limits before).waits op

pub record KeepsLaws (limits : Limits) (past : List Event) : Type 0 where
  -- each operation was initiated once, and its handler was executed to its end once or discarded once
  pub initiated_once : (op : ℕ) → times (calls op) past ≤ 1
  pub over_once : (op : ℕ) → times (is_over op) past ≡ times (calls op) past
  pub begun_or_dropped : (op : ℕ) → times (begins op) past + times (drops op) past ≤ times (calls op) past
  pub begun_before : (op : ℕ) → times (ends op) past ≤ times (begins op) past
  pub alone : AreAlone past
  pub in_order : AreInOrder limits past
  pub stopped : NoneBeginsStopped past
  pub waits : WaitsAreDue limits past
