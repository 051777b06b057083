-- Strands: what is ready on one, in which order, and what executes (Asio reference, strand, post,
-- defer, dispatch; Overview, "Strands: Use Threads Without Explicit Locking"). A dispatch to the strand
-- of the handler that calls it goes before all that is ready there, and begins when that handler has
-- returned: Asio executes it inside the call.
use Rattle.std.specs.Prelude.{◌≡◌, ℕ, ◌+◌, ◌-◌, ◌&&◌, nat_le, Bool, true, false, List, [], ◌∷◌, ◌++◌, Some, None, insert, drop, slice_get}
use Rattle.io_rules.specs.declared.name.Lane.{Lane}
use Rattle.io_rules.specs.declared.name.Lane.TheVariants as lane
use Rattle.io_rules.specs.declared.operation.Operation.{Operation}
use Rattle.io_rules.specs.declared.operation.Operation.TheVariants as operation
use Rattle.io_rules.specs.declared.place.Place.{Place}
use Rattle.io_rules.specs.declared.request.Gone.{Gone}
use Rattle.io_rules.specs.declared.request.Gone.TheVariants as gone
use Rattle.io_rules.specs.declared.request.Request.{Request}
use Rattle.io_rules.specs.Names.{is_leaving, is_on, with_freed}
use Rattle.io_rules.specs.State.{ContextState, StrandState, new_strand, strand_at, with_strand}

-- when a handler becomes ready: with its call, before or behind all that is ready on its strand, or
-- once its operation has completed
pub data Entry : Type 0 where
  First : Entry
  Last : Entry
  Later : Entry

-- both are the same strand
abbrev pub is_same_strand : Lane → Lane → Bool
is_same_strand caller lane.Own = false
is_same_strand caller (lane.Strand strand) = is_on strand caller

abbrev pub entry_of_dispatch : Bool → Entry
entry_of_dispatch true = First
entry_of_dispatch false = Last

abbrev pub entry_of_kind : Lane → Lane → Operation → Entry
entry_of_kind caller strand operation.Post = Last
entry_of_kind caller strand operation.Defer = Last
entry_of_kind caller strand operation.Dispatch = entry_of_dispatch (is_same_strand caller strand)
entry_of_kind caller strand _ = Later

-- a request of a handler that executes there
abbrev pub entry_of : Lane → Request → Gone → Entry
entry_of caller request gone.Nothing = entry_of_kind caller request.lane request.kind
entry_of caller request gone.Strand = Later
entry_of caller request gone.Other = Later

-- where its handler executes: on no strand, if that is gone
abbrev pub lane_given : Request → Gone → Lane
lane_given request gone.Nothing = request.lane
lane_given request gone.Strand = lane.Own
lane_given request gone.Other = request.lane

-- the strand of a lane comes to this
abbrev pub on_lane : Lane → (StrandState → StrandState) → List StrandState → List StrandState
on_lane lane.Own change strands = strands
on_lane (lane.Strand strand) change strands =
    with_strand strand (change (strand_at strands strand)) strands

-- one more operation is tied to it, ready or not
abbrev pub called_on : Entry → ℕ → StrandState → StrandState
called_on First op s =
    record s { queue = insert s.queue s.front op; front = s.front + 1; tied = s.tied + 1 }
called_on Last op s = record s { queue = s.queue ++ op ∷ []; tied = s.tied + 1 }
called_on Later op s = record s { tied = s.tied + 1 }

-- one that completed is ready, behind the others
abbrev pub ready_on : ℕ → StrandState → StrandState
ready_on op s = record s { queue = s.queue ++ op ∷ [] }

-- the first one begins
abbrev pub begun_on : ℕ → StrandState → StrandState
begun_on op s = record s { queue = drop 1 s.queue; front = 0; runs = Some op }

-- it has returned
abbrev pub ended_on : StrandState → StrandState
ended_on s = record s { runs = None; tied = s.tied - 1 }

-- nothing of it executes, and it is the first that is ready
pub record IsNextOf (s : StrandState) (op : ℕ) : Type 0 where
  pub alone : s.runs ≡ None
  pub first : slice_get s.queue 0 ≡ Some op

-- it may begin on this lane
abbrev pub IsNext : List StrandState → Lane → ℕ → Type 0
IsNext strands lane.Own op = Unit {0}
IsNext strands (lane.Strand strand) op = IsNextOf (strand_at strands strand) op

-- its strand was freed, and it is the last operation there
abbrev pub is_last_on : ContextState → Lane → Bool
is_last_on s lane.Own = false
is_last_on s (lane.Strand strand) =
    is_leaving s.names.strands strand && nat_le (strand_at s.strands strand).tied 1

-- a strand without operations is forgotten, and its place is free
abbrev pub strand_forgotten : Bool → Lane → List StrandState → List StrandState
strand_forgotten false lane strands = strands
strand_forgotten true lane strands = on_lane lane (λ s. new_strand) strands

abbrev pub strand_freed : Bool → Lane → List Place → List Place
strand_freed false lane places = places
strand_freed true lane.Own places = places
strand_freed true (lane.Strand strand) places = with_freed strand places
