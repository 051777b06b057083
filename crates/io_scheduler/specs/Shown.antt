-- What a scheduler keeps shows the state of its history.
use Rattle.std.specs.Prelude.{◌≡◌, ◌<◌, ◌≤◌, ℕ, Bool, true, false, List, [], ◌∷◌, length, map, replicate, sum_by, Option, Some, None}
use Rattle.std.specs.List.{slice_index_or}
use Rattle.io_rules.specs.declared.limits.Limits.{Limits}
use Rattle.io_rules.specs.declared.name.Lane.{Lane}
use Rattle.io_rules.specs.declared.name.Lane.TheVariants as lane
use Rattle.io_rules.specs.declared.name.Name.{Name}
use Rattle.io_rules.specs.declared.op.Op.{Op}
use Rattle.io_rules.specs.declared.place.Life.{Life}
use Rattle.io_rules.specs.declared.place.Life.TheVariants as life
use Rattle.io_rules.specs.declared.place.Place.{Place}
use Rattle.io_rules.specs.declared.request.Marks.{Marks}
use Rattle.io_rules.specs.Executions.{spares_in}
use Rattle.io_rules.specs.Names.{Names, place_at}
use Rattle.io_rules.specs.Ops.{is_ready}
use Rattle.io_rules.specs.Room.{one_if}
use Rattle.io_rules.specs.State.{ContextState}
use Rattle.io_strands.specs.declared.ready.ReadyOp.{ReadyOp}
use Rattle.io_strands.specs.Cell.{Cell, is_there, may_begin, vacant}
use Rattle.io_strands.specs.Numbered.{numbered}
use Rattle.io_names.specs.Tables.{name_at}
use Rattle.io_jobs.specs.Listed.{JobList}
use Rattle.io_scheduler.specs.declared.counts.Counts.{Counts}
use Rattle.io_scheduler.specs.Counted.{counts_of}
use Rattle.io_scheduler.specs.Ready.{AreReady, own_ops}

-- what stands at the place of a strand
abbrev pub cell_at : {H S : Type 0} → List (Cell H S) → ℕ → Cell H S
cell_at cells place = slice_index_or cells place (vacant 0)

-- a strand is at a place, and its name may be gone
abbrev pub is_used : Life → Bool
is_used life.Alive = true
is_used life.Closing = true
is_used _ = false

abbrev pub is_used_place : Place → Bool
is_used_place place = is_used place.life

-- the lane of the strand at a place
abbrev pub lane_of_place : List Place → ℕ → Lane
lane_of_place places place = lane.Strand (name_at places place)

abbrev pub waits_own_on : Lane → Bool → ℕ
waits_own_on lane.Own ready = one_if ready
waits_own_on (lane.Strand strand) ready = 0

-- it is ready, and without a strand
abbrev pub waits_own : Op → ℕ
waits_own op = waits_own_on op.lane (is_ready op.phase)

abbrev pub room_of : {H S : Type 0} → Cell H S → ℕ
room_of cell = cell.room

-- the numbers of these were given
abbrev pub AreBelow : ℕ → List Op → Type 0
AreBelow next [] = Unit {0}
AreBelow next (op ∷ ops) = (op.number < next) × AreBelow next ops

-- no strand is at the place of a name that is kept
abbrev pub IsUnusedSpare : List Place → Option Name → Type 0
IsUnusedSpare places None = Unit {0}
IsUnusedSpare places (Some name) = is_used_place (place_at places name.place) ≡ false

abbrev pub SparesUnused : List Place → List Op → Type 0
SparesUnused places [] = Unit {0}
SparesUnused places (op ∷ ops) =
    IsUnusedSpare places (spares_in op.phase).strand × SparesUnused places ops

pub record ShowsCell {H S : Type 0} (marks : H → Marks) (ops : List Op) (next : ℕ) (on : Lane) (cell : Cell H S) :
    Type 0 where
  pub ready : AreReady marks ops on cell.queue
  pub tied : cell.tied ≤ next
  -- where no strand is
  pub idle : is_there cell ≡ false → cell.tied ≡ 0

pub record Shows {H S : Type 0} (marks : H → Marks) (limits : Limits) (counts : Counts) (names : Names)
    (cells : List (Cell H S)) (jobs : JobList (ReadyOp H)) (s : ContextState) : Type 0 where
  pub limits_are : s.limits ≡ limits
  pub counts_are : counts ≡ counts_of s
  pub names_are : names ≡ s.names
  pub below : AreBelow s.next s.ops
  pub spares : SparesUnused s.names.strands s.ops
  -- strands as the rules have them, and where they are
  pub strands : map numbered cells ≡ s.strands
  pub there : map is_there cells ≡ map is_used_place s.names.strands
  pub rooms : map room_of cells ≡ replicate limits.strands limits.operations
  pub each : (place : ℕ) →
      ShowsCell marks s.ops s.next (lane_of_place s.names.strands place) (cell_at cells place)
  -- what may begin is listed
  pub listed : jobs.listed ≡ map may_begin cells
  pub own : AreReady marks s.ops lane.Own (own_ops jobs.ring)
  pub own_all : length (own_ops jobs.ring) ≡ sum_by waits_own s.ops
  pub own_room : jobs.room ≡ limits.operations
  -- nothing is left undone
  pub settled : s.settled ≡ []
  pub going : s.finishing ≡ false
