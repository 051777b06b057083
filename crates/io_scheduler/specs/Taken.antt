-- The first that may begin is taken.
use Rattle.std.specs.Prelude.{◌≡◌, true, List, Option, Some, None, slice_get}
use Rattle.std.specs.List.{slice_set}
use Rattle.std.specs.Option.{is_some}
use Rattle.io_rules.specs.declared.name.Lane.{Lane}
use Rattle.io_rules.specs.declared.name.Lane.TheVariants as lane
use Rattle.io_rules.specs.declared.name.Name.{Name}
use Rattle.io_rules.specs.declared.place.Place.{Place}
use Rattle.io_strands.specs.declared.ready.ReadyOp.{ReadyOp}
use Rattle.io_strands.specs.Cell.{Cell, begun, may_begin}
use Rattle.io_names.specs.Tables.{name_at}
use Rattle.io_jobs.specs.declared.job.Job.TheVariants as job
use Rattle.io_jobs.specs.Listed.{JobList, taken}
use Rattle.io_scheduler.specs.Shown.{cell_at}

-- an operation without a strand
pub record IsOwnTaken {H S : Type 0} (op : ReadyOp H) (state : Option S) (cells new_cells : List (Cell H S))
    (jobs new_jobs : JobList (ReadyOp H)) : Type 0 where
  pub first : slice_get jobs.ring 0 ≡ Some (job.Own op)
  pub taken_from : new_jobs ≡ taken (job.Own op) jobs
  pub same_cells : new_cells ≡ cells
  pub no_state : state ≡ None

-- the first of a strand, with its state
pub record IsStrandTaken {H S : Type 0} (name : Name) (op : ReadyOp H) (state : Option S) (places : List Place)
    (cells new_cells : List (Cell H S)) (jobs new_jobs : JobList (ReadyOp H)) : Type 0 where
  pub name_is : name ≡ name_at places name.place
  pub listed : slice_get jobs.ring 0 ≡ Some (job.Strand name.place)
  pub may : may_begin (cell_at cells name.place) ≡ true
  pub first : slice_get (cell_at cells name.place).queue 0 ≡ Some op
  pub taken_from : new_jobs ≡ taken (job.Strand name.place) jobs
  pub begun_on : new_cells ≡ slice_set cells name.place (begun op (cell_at cells name.place))
  pub state_is : (cell_at cells name.place).state ≡ state
  pub with_state : is_some state ≡ true

abbrev pub IsTaken : {H S : Type 0} → Lane → ReadyOp H → Option S → List Place → List (Cell H S) →
    List (Cell H S) → JobList (ReadyOp H) → JobList (ReadyOp H) → Type 0
IsTaken lane.Own op state places cells new_cells jobs new_jobs =
    IsOwnTaken op state cells new_cells jobs new_jobs
IsTaken (lane.Strand name) op state places cells new_cells jobs new_jobs =
    IsStrandTaken name op state places cells new_cells jobs new_jobs
