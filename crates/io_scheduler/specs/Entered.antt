-- An operation becomes ready with its call.
use Rattle.std.specs.Prelude.{◌<◌, ℕ, Bool, true, false, List, length, if◌then◌else◌}
use Rattle.std.specs.List.{slice_set}
use Rattle.io_rules.specs.declared.name.Lane.{Lane}
use Rattle.io_rules.specs.declared.name.Lane.TheVariants as lane
use Rattle.io_rules.specs.Strands.{entry_of_dispatch}
use Rattle.io_strands.specs.declared.ready.ReadyOp.{ReadyOp}
use Rattle.io_strands.specs.Cell.{Cell, MayBeReady, MayBeTied, called, may_begin}
use Rattle.io_jobs.specs.Listed.{JobList, is_listed, owns, with_op, with_strand}
use Rattle.io_scheduler.specs.Shown.{cell_at}

-- a strand that may begin is listed
abbrev pub listed_if : {T : Type 0} → Bool → ℕ → JobList T → JobList T
listed_if false strand jobs = jobs
listed_if true strand jobs = if is_listed jobs strand then jobs else with_strand strand jobs

-- before the others of a strand where it goes first, else behind them
abbrev pub entered_cells : {H S : Type 0} → Bool → Lane → ReadyOp H → List (Cell H S) → List (Cell H S)
entered_cells first lane.Own op cells = cells
entered_cells first (lane.Strand strand) op cells =
    slice_set cells strand.place
    (called (entry_of_dispatch first) op (cell_at cells strand.place))

abbrev pub entered_jobs : {H S : Type 0} → Bool → Lane → ReadyOp H → List (Cell H S) → JobList (ReadyOp H) →
    JobList (ReadyOp H)
entered_jobs first lane.Own op cells jobs = with_op op jobs
entered_jobs first (lane.Strand strand) op cells jobs =
    listed_if (may_begin (called (entry_of_dispatch first) op (cell_at cells strand.place)))
    strand.place jobs

-- there is room for one more on a strand
pub record HasRoomOn {H S : Type 0} (place : ℕ) (cells : List (Cell H S)) (jobs : JobList (ReadyOp H)) :
    Type 0 where
  pub within : place < length cells
  pub listed : place < length jobs.listed
  pub ready : MayBeReady (cell_at cells place)
  pub tied : MayBeTied (cell_at cells place)

abbrev pub HasRoomFor : {H S : Type 0} → Lane → List (Cell H S) → JobList (ReadyOp H) → Type 0
HasRoomFor lane.Own cells jobs = owns jobs.ring < jobs.room
HasRoomFor (lane.Strand strand) cells jobs = HasRoomOn strand.place cells jobs
