-- An operation whose handler executes.
use Rattle.std.specs.Prelude.{◌≡◌, ◌<◌, ℕ, ◌+◌, Bool, List, Option, Some, None}
use Rattle.io_rules.specs.declared.event.Event.{Event}
use Rattle.io_rules.specs.declared.name.Lane.{Lane}
use Rattle.io_rules.specs.declared.op.Op.{Op}
use Rattle.io_rules.specs.declared.op.Phase.TheVariants as phase
use Rattle.io_rules.specs.declared.spares.Spares.{Spares}
use Rattle.io_rules.specs.Ops.{op_at}
use Rattle.io_rules.specs.Room.{one_if}
use Rattle.io_rules.specs.State.{ContextState}
use Rattle.io_history.specs.declared.view.Held.{Held}
use Rattle.io_scheduler.specs.Ended.{mark_of}

-- what is known of it: as what it is held, and the history when it was given out
pub record Execution : Type 0 where
  pub op : ℕ
  pub lane : Lane
  -- how many operations its handler may initiate
  pub places : ℕ
  pub spares : Spares
  pub held : Option Held
  pub told : List Event

pub record IsRunningAs (op : ℕ) (at : Lane) (own : Bool) (grant : ℕ) (spares : Spares) (held : Held) : Type 0 where
  pub number : held.op ≡ op
  pub on : held.is.lane ≡ at
  pub runs : held.is.phase ≡ phase.Running own grant spares

-- it is held, on this lane, with its own place or without, and with so many more
abbrev pub IsExecution : ℕ → Lane → Bool → ℕ → Spares → Option Held → Type 0
IsExecution op lane own grant spares None = ⊥
IsExecution op lane own grant spares (Some held) = IsRunningAs op lane own grant spares held

-- the operation with this number, which executes and returns this mark
pub record HeldOp (s : ContextState) (n : ℕ) (on : Lane) (own : Bool) (grant : ℕ) (spares : Spares) (held : Option Held) :
    Type 0 where
  pub op : Op
  pub is : op_at s.ops n ≡ Some op
  pub at : op.lane ≡ on
  pub runs : op.phase ≡ phase.Running own grant spares
  pub returns : mark_of held ≡ Some op.marks.run

-- it has a place for one more
pub record MayGive (s : ContextState) (runs : Execution) : Type 0 where
  pub own : Bool
  pub grant : ℕ
  pub it : HeldOp s runs.op runs.lane own grant runs.spares runs.held
  pub some : 0 < one_if own + grant
