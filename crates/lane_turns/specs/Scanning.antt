-- Attempts at lanes one after another, up to the first that comes to something (Asio reference,
-- io_context::poll_one).
use Rattle.std.specs.Prelude.{◌≡◌, ◌⊎◌, ℕ, ◌+◌, ◌<◌, Bool, true, false, List, [], ◌++◌, Option, Some, None}
use Rattle.turn_table.specs.Seated.{Seated}
use Rattle.lane_clock.specs.Seats.{Remembers, own}
use Rattle.lane_clock.specs.Steps.{draw_count, step_count}
use Rattle.lane_clock.specs.declared.found.Found.{Found}
use Rattle.lane_turns.specs.declared.one.One.{One}
use Rattle.lane_turns.specs.declared.one.One.TheVariants as one
use Rattle.lane_turns.specs.Answers.{is_nothing}
use Rattle.lane_turns.specs.Attempts.{HasAttempted, WorkerState}
use Rattle.lane_turns.specs.LaneValues.{Tries}
use Rattle.lane_turns.specs.Workers.{HasRead, WorkerView}

-- what a seat at the table of turns missed
abbrev pub misses_of : Option Seated → List ℕ
misses_of None = []
misses_of (Some seat) = seat.misses

-- the numbers that it stands for
abbrev pub numbers_of : Option Seated → List ℕ
numbers_of None = []
numbers_of (Some seat) = seat.numbers

-- a worker's seat went on: it draws nothing, forgets nothing, and keeps its round with the stops of that
pub record SeatGoesOn (old new : WorkerView) : Type 0 where
  pub remembers : Remembers old.pen.seat new.pen.seat
  pub number : new.pen.seat.number ≡ old.pen.seat.number
  pub draws : step_count draw_count (own new.pen.seat) ≡ step_count draw_count (own old.pen.seat)
  pub log : new.pen.log ≡ old.pen.log
  pub round : new.round ≡ old.round
  pub drew : new.drew ≡ old.drew
  pub stopped : new.stopped ≡ old.stopped

-- a list that grew at its end
abbrev pub Grows : List ℕ → List ℕ → Type 0
Grows old new = (more : List ℕ) × (new ≡ old ++ more)

-- and so did the worker, who knows all that it missed, and whose seat at the table stays
pub record GoesOn {H X : Type 0} (old new : WorkerState H X) : Type 0 where
  pub seat : SeatGoesOn old.seat new.seat
  pub misses : Grows (misses_of old.turns) (misses_of new.turns)
  pub numbers : numbers_of new.turns ≡ numbers_of old.turns

-- it read the clock word
pub record HasLooked {H X : Type 0} (old new : WorkerState H X) (found : Found) : Type 0 where
  pub read : HasRead old.seat new.seat found
  pub turns : new.turns ≡ old.turns
  pub kept : new.kept ≡ old.kept
  pub last : new.last ≡ old.last

module _ {H X : Type 0} (t : Tries H X) where
  -- an attempt at each lane from one on and below another came to nothing
  pub data HavePassed (from : ℕ) (old : WorkerState H X) : ℕ → WorkerState H X → Type 0 where
    none_passed : HavePassed from old from old
    one_passed : {lane : ℕ} {mid new : WorkerState H X} → HavePassed from old lane mid →
        HasAttempted t lane one.Nothing mid new → HavePassed from old (lane + 1) new

  -- an attempt at this lane came to this answer, behind others that came to nothing
  pub record CameBehind (from to : ℕ) (answer : One) (old new : WorkerState H X) : Type 0 where
    pub lane : ℕ
    pub below : lane < to
    pub mid : WorkerState H X
    pub passed : HavePassed from old lane mid
    pub came : HasAttempted t lane answer mid new

  abbrev pub Scans : Bool → ℕ → ℕ → One → WorkerState H X → WorkerState H X → Type 0
  Scans true from to answer old new = HavePassed from old to new
  Scans false from to answer old new = CameBehind from to answer old new

  abbrev pub HasScanned : ℕ → ℕ → One → WorkerState H X → WorkerState H X → Type 0
  HasScanned from to answer old new = Scans (is_nothing answer) from to answer old new

  -- among what a worker did was an attempt at this lane that came to this answer
  pub record TriedAmong (lane : ℕ) (answer : One) (old new : WorkerState H X) : Type 0 where
    pub before : WorkerState H X
    pub after : WorkerState H X
    pub since : GoesOn old before
    pub came : HasAttempted t lane answer before after
    pub till : GoesOn after new

  -- the last that it did was one
  pub record TriedLast (lanes : ℕ) (answer : One) (old new : WorkerState H X) : Type 0 where
    pub lane : ℕ
    pub there : lane < lanes
    pub before : WorkerState H X
    pub since : GoesOn old before
    pub came : HasAttempted t lane answer before new

  -- an attempt at each lane came to nothing, or one to the answer
  abbrev pub Looks : Bool → ℕ → One → WorkerState H X → WorkerState H X → Type 0
  Looks true lanes answer old new =
      (lane : ℕ) → lane < lanes → TriedAmong lane one.Nothing old new
  Looks false lanes answer old new = TriedLast lanes answer old new

  abbrev pub HasLookedRound : ℕ → One → WorkerState H X → WorkerState H X → Type 0
  HasLookedRound lanes answer old new = Looks (is_nothing answer) lanes answer old new

  -- attempts at lanes, each of which came to nothing
  pub data HaveTried (lanes : ℕ) (old : WorkerState H X) : WorkerState H X → Type 0 where
    none_tried : HaveTried lanes old old
    one_tried : {lane : ℕ} {mid new : WorkerState H X} → HaveTried lanes old mid → lane < lanes →
        HasAttempted t lane one.Nothing mid new → HaveTried lanes old new

  -- an attempt at a lane
  pub record HasTriedOne (lanes : ℕ) (old new : WorkerState H X) : Type 0 where
    pub lane : ℕ
    pub there : lane < lanes
    pub answer : One
    pub came : HasAttempted t lane answer old new

  -- attempts at lanes and nothing else, of which none but the last came to something
  pub record HasTriedUntil (lanes : ℕ) (old new : WorkerState H X) : Type 0 where
    pub mid : WorkerState H X
    pub tried : HaveTried lanes old mid
    pub last : (new ≡ mid) ⊎ HasTriedOne lanes mid new
