-- A handler has returned.
use Rattle.std.specs.Prelude.{◌≡◌, ◌<◌, ℕ, ◌+◌, ◌-◌, ◌&&◌, nat_le, Bool, true, false, List, [], Option, Some, None, length}
use Rattle.std.specs.List.{slice_set}
use Rattle.std.specs.Option.{is_some, option_map}
use Rattle.io_rules.specs.declared.name.Lane.{Lane}
use Rattle.io_rules.specs.declared.name.Lane.TheVariants as lane
use Rattle.io_rules.specs.declared.place.Place.{Place}
use Rattle.io_rules.specs.Names.{is_leaving, is_unused, place_at}
use Rattle.io_history.specs.declared.view.Held.{Held}
use Rattle.io_strands.specs.declared.ready.ReadyOp.{ReadyOp}
use Rattle.io_strands.specs.Cell.{Cell, ended, may_begin, vacant}
use Rattle.io_jobs.specs.Listed.{JobList}
use Rattle.io_scheduler.specs.declared.counts.Counts.{Counts}
use Rattle.io_scheduler.specs.Entered.{listed_if}
use Rattle.io_scheduler.specs.Shown.{cell_at}

-- so many places are left to it, and free again
abbrev pub counts_ended : ℕ → Counts → Counts
counts_ended places c = record c { promised = c.promised - places; room = c.room + places }

-- what its handler returns
abbrev pub mark_of : Option Held → Option ℕ
mark_of held = option_map (λ (h : Held). h.is.marks.run) held

abbrev pub left_cells : {H S : Type 0} → Lane → Option S → List (Cell H S) → List (Cell H S)
left_cells lane.Own state cells = cells
left_cells (lane.Strand strand) None cells = cells
left_cells (lane.Strand strand) (Some state) cells =
    slice_set cells strand.place (ended state (cell_at cells strand.place))

abbrev pub left_jobs : {H S : Type 0} → Lane → Option S → List (Cell H S) → JobList (ReadyOp H) →
    JobList (ReadyOp H)
left_jobs lane.Own state cells jobs = jobs
left_jobs (lane.Strand strand) None cells jobs = jobs
left_jobs (lane.Strand strand) (Some state) cells jobs =
    listed_if (may_begin (ended state (cell_at cells strand.place))) strand.place jobs

-- something executes on the strand
pub record RunsOn {H S : Type 0} (place : ℕ) (cells : List (Cell H S)) (jobs : JobList (ReadyOp H)) :
    Type 0 where
  pub within : place < length cells
  pub listed : place < length jobs.listed
  pub runs : is_some (cell_at cells place).runs ≡ true

abbrev pub MayLeaveFrom : {H S : Type 0} → Lane → List (Cell H S) → JobList (ReadyOp H) → Type 0
MayLeaveFrom lane.Own cells jobs = Unit {0}
MayLeaveFrom (lane.Strand strand) cells jobs = RunsOn strand.place cells jobs

-- its strand was freed, and has no more operations
abbrev pub is_last_in : {H S : Type 0} → List Place → Lane → List (Cell H S) → Bool
is_last_in places lane.Own cells = false
is_last_in places (lane.Strand strand) cells =
    is_leaving places strand && nat_le (cell_at cells strand.place).tied 1

-- no strand is there any more
abbrev pub forgotten_cells : {H S : Type 0} → Bool → Lane → List (Cell H S) → List (Cell H S)
forgotten_cells false at cells = cells
forgotten_cells true lane.Own cells = cells
forgotten_cells true (lane.Strand strand) cells =
    slice_set cells strand.place (vacant (cell_at cells strand.place).room)

abbrev pub forgotten_state : {H S : Type 0} → Bool → Lane → List (Cell H S) → Option S
forgotten_state false at cells = None
forgotten_state true lane.Own cells = None
forgotten_state true (lane.Strand strand) cells = (cell_at cells strand.place).state

-- a strand is there, and nothing is ready on it
pub record IsIdleAt {H S : Type 0} (place : ℕ) (places : List Place) (cells : List (Cell H S)) : Type 0 where
  pub within : place < length cells
  pub used : is_unused (place_at places place).life ≡ false
  pub idle : (cell_at cells place).queue ≡ []

abbrev pub MayForget : {H S : Type 0} → Bool → Lane → List Place → List (Cell H S) → Type 0
MayForget false at places cells = Unit {0}
MayForget true lane.Own places cells = Unit {0}
MayForget true (lane.Strand strand) places cells = IsIdleAt strand.place places cells
