-- An operation completes: it is ready behind the others of its lane.
use Rattle.std.specs.Prelude.{◌<◌, ℕ, List, length}
use Rattle.std.specs.List.{slice_set}
use Rattle.asio_types.specs.declared.code.Code.{Code}
use Rattle.io_rules.specs.declared.name.Lane.{Lane}
use Rattle.io_rules.specs.declared.name.Lane.TheVariants as lane
use Rattle.io_rules.specs.declared.op.Phase.TheVariants as phase
use Rattle.io_rules.specs.declared.op.Wait.{Wait}
use Rattle.io_rules.specs.Ops.{with_phase}
use Rattle.io_rules.specs.State.{ContextState}
use Rattle.io_rules.specs.Strands.{on_lane, ready_on}
use Rattle.io_strands.specs.declared.ready.ReadyOp.{ReadyOp}
use Rattle.io_strands.specs.Cell.{Cell, MayBeReady, may_begin, readied}
use Rattle.io_jobs.specs.Listed.{JobList, owns, with_op}
use Rattle.io_scheduler.specs.Entered.{listed_if}
use Rattle.io_scheduler.specs.Shown.{cell_at}

abbrev pub readied_cells : {H S : Type 0} → Lane → ReadyOp H → List (Cell H S) → List (Cell H S)
readied_cells lane.Own op cells = cells
readied_cells (lane.Strand strand) op cells =
    slice_set cells strand.place (readied op (cell_at cells strand.place))

abbrev pub readied_jobs : {H S : Type 0} → Lane → ReadyOp H → List (Cell H S) → JobList (ReadyOp H) →
    JobList (ReadyOp H)
readied_jobs lane.Own op cells jobs = with_op op jobs
readied_jobs (lane.Strand strand) op cells jobs =
    listed_if (may_begin (readied op (cell_at cells strand.place))) strand.place jobs

-- there is room for one more that is ready on a strand
pub record IsRoomOn {H S : Type 0} (place : ℕ) (cells : List (Cell H S)) (jobs : JobList (ReadyOp H)) :
    Type 0 where
  pub within : place < length cells
  pub listed : place < length jobs.listed
  pub ready : MayBeReady (cell_at cells place)

abbrev pub MayBeReadyOn : {H S : Type 0} → Lane → List (Cell H S) → JobList (ReadyOp H) → Type 0
MayBeReadyOn lane.Own cells jobs = owns jobs.ring < jobs.room
MayBeReadyOn (lane.Strand strand) cells jobs = IsRoomOn strand.place cells jobs

-- the state behind it, with what is settled and what waits then
abbrev pub completed_state : ℕ → Code → ℕ → Lane → List ℕ → List Wait → ContextState → ContextState
completed_state n code size on settled waits s = record s {
  ops = with_phase n (phase.Ready code size) s.ops;
  settled = settled;
  waits = waits;
  strands = on_lane on (ready_on n) s.strands;
}
