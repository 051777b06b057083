-- A wait is initiated from outside of all handlers (Asio reference, basic_waitable_timer::async_wait).
use Rattle.std.specs.Prelude.{◌<◌, ℕ, ◌&&◌, Bool, List, None, length}
use Rattle.std.specs.List.{slice_set}
use Rattle.io_rules.specs.declared.name.Lane.{Lane}
use Rattle.io_rules.specs.declared.name.Lane.TheVariants as lane
use Rattle.io_rules.specs.declared.name.Name.{Name}
use Rattle.io_rules.specs.declared.operation.Operation.TheVariants as operation
use Rattle.io_rules.specs.declared.request.Marks.{Marks}
use Rattle.io_rules.specs.declared.request.Request.{Request}
use Rattle.io_rules.specs.Names.{is_alive}
use Rattle.io_rules.specs.State.{ContextState}
use Rattle.io_rules.specs.Strands.{Later}
use Rattle.io_strands.specs.declared.ready.ReadyOp.{ReadyOp}
use Rattle.io_strands.specs.Cell.{Cell, MayBeTied, called}
use Rattle.io_scheduler.specs.Counted.{may_post}
use Rattle.io_scheduler.specs.Shown.{cell_at}

-- the request: without a cancellation slot
abbrev pub waiting_on : Lane → Name → Marks → Request
waiting_on on timer marks =
    record { lane = on; binding = None; kind = operation.Wait timer; marks = marks }

-- a place is free, and a number, and the strand and the timer are there
abbrev pub may_wait : ContextState → Lane → Name → Bool
may_wait s on timer = may_post s on && is_alive s.names.timers timer

-- one more operation is tied to a strand, which isn't ready
abbrev pub later_cells : {H S : Type 0} → Lane → ReadyOp H → List (Cell H S) → List (Cell H S)
later_cells lane.Own op cells = cells
later_cells (lane.Strand strand) op cells =
    slice_set cells strand.place (called Later op (cell_at cells strand.place))

-- there is room for it
pub record IsTiable {H S : Type 0} (place : ℕ) (cells : List (Cell H S)) : Type 0 where
  pub within : place < length cells
  pub tied : MayBeTied (cell_at cells place)

abbrev pub MayBeTiedTo : {H S : Type 0} → Lane → List (Cell H S) → Type 0
MayBeTiedTo lane.Own cells = Unit {0}
MayBeTiedTo (lane.Strand strand) cells = IsTiable strand.place cells
