-- A handler begins.
use Rattle.std.specs.Prelude.{◌≡◌, ℕ, ◌+◌, ◌-◌, Bool, true, false, Option, Some}
use Rattle.std.specs.Option.{is_some}
use Rattle.io_rules.specs.declared.event.Event.TheVariants as event
use Rattle.io_rules.specs.declared.name.Lane.{Lane}
use Rattle.io_rules.specs.declared.name.Lane.TheVariants as lane
use Rattle.io_rules.specs.declared.op.Op.{Op}
use Rattle.io_rules.specs.declared.op.Phase.TheVariants as phase
use Rattle.io_rules.specs.declared.request.Marks.{Marks}
use Rattle.io_rules.specs.declared.spares.Spares.{Spares}
use Rattle.io_rules.specs.Executions.{MayBegin}
use Rattle.io_rules.specs.Legal.{IsStep}
use Rattle.io_rules.specs.Ops.{op_at}
use Rattle.io_rules.specs.Room.{grant_of}
use Rattle.io_rules.specs.State.{ContextState}
use Rattle.io_history.specs.Steps.{holding}
use Rattle.io_handlers.specs.declared.completion.Completion.{Completion}
use Rattle.io_scheduler.specs.Running.{Execution}
use Rattle.io_scheduler.specs.declared.counts.Counts.{Counts}

-- so many operations are granted to it, besides the one that has its place
abbrev pub counts_begun : ℕ → Counts → Counts
counts_begun grant c = record c { promised = c.promised + (grant + 1); room = c.room - grant }

abbrev pub is_strand : Lane → Bool
is_strand lane.Own = false
is_strand (lane.Strand strand) = true

-- what was ready: its handler, how it completed, and whether a state goes with it
pub record WasReady {H S : Type 0} (marks : H → Marks) (s : ContextState) (n : ℕ) (handler : H) (done : Completion)
    (state : Option S) : Type 0 where
  pub op : Op
  pub is : op_at s.ops n ≡ Some op
  pub given : op.marks ≡ marks handler
  pub completed : op.phase ≡ phase.Ready done.code done.size
  pub clock : done.now ≡ s.now
  pub with_state : is_some state ≡ is_strand op.lane

-- it begins, is held as it is now, and its handler comes out
pub record IsBegun {H S : Type 0} (marks : H → Marks) (old new : ContextState) (runs : Execution) (handler : H)
    (done : Completion) (state : Option S) : Type 0 where
  pub step : IsStep old (event.Begun runs.op runs.spares) new
  pub places : runs.places ≡ grant_of old + 1
  pub held_as : runs.held ≡ holding runs.op (op_at new.ops runs.op)
  pub was : WasReady marks old runs.op handler done state

-- no handler may begin
abbrev pub NoneMayBegin : ContextState → Type 0
NoneMayBegin s = (n : ℕ) (spares : Spares) → MayBegin s n spares → ⊥
