-- What is ready on a lane, as a scheduler has it: the operations with their handlers.
use Rattle.std.specs.Prelude.{◌≡◌, ℕ, ◌==◌, false, List, [], ◌∷◌, Some}
use Rattle.io_rules.specs.declared.name.Lane.{Lane}
use Rattle.io_rules.specs.declared.op.Op.{Op}
use Rattle.io_rules.specs.declared.op.Phase.TheVariants as phase
use Rattle.io_rules.specs.declared.request.Marks.{Marks}
use Rattle.io_rules.specs.Ops.{op_at}
use Rattle.io_strands.specs.declared.ready.ReadyOp.{ReadyOp}
use Rattle.io_jobs.specs.declared.job.Job.{Job}
use Rattle.io_jobs.specs.Listed.{ops_in}

-- an operation with its handler: it is ready on this lane, and so completed
pub record IsReadyAs {H : Type 0} (marks : H → Marks) (ops : List Op) (on : Lane) (ready : ReadyOp H) :
    Type 0 where
  pub op : Op
  pub is : op_at ops ready.number ≡ Some op
  pub lane : op.lane ≡ on
  pub given : op.marks ≡ marks ready.handler
  pub phase : op.phase ≡ phase.Ready ready.code ready.size

-- no operation of the list has this number
abbrev pub IsNone : {H : Type 0} → ℕ → List (ReadyOp H) → Type 0
IsNone n [] = Unit {0}
IsNone n (ready ∷ rest) = ((ready.number == n) ≡ false) × IsNone n rest

-- each of these is ready on this lane, and none is there twice
abbrev pub AreReady : {H : Type 0} → (H → Marks) → List Op → Lane → List (ReadyOp H) → Type 0
AreReady marks ops on [] = Unit {0}
AreReady marks ops on (ready ∷ rest) =
    IsReadyAs marks ops on ready × IsNone ready.number rest × AreReady marks ops on rest

-- the operations without a strand that may begin
abbrev pub own_ops : {H : Type 0} → List (Job (ReadyOp H)) → List (ReadyOp H)
own_ops jobs = ops_in jobs
