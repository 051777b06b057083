-- What `poll_one` and `run` answer, and why (Asio reference, io_context::poll_one, ::run, ::poll).
use Rattle.std.specs.Prelude.{◌≡◌, ◌≢◌, ◌⊎◌, ℕ, ◌<◌, Bool, true, false, ◌||◌, Option, Some, None, is_some}
use Rattle.lane_clock.specs.declared.found.Found.{Found}
use Rattle.lane_turns.specs.declared.one.One.{One}
use Rattle.lane_turns.specs.declared.one.One.TheVariants as one
use Rattle.lane_turns.specs.declared.run_end.RunEnd.{RunEnd}
use Rattle.lane_turns.specs.declared.run_end.RunEnd.TheVariants as end
use Rattle.lane_turns.specs.Attempts.{WorkerState}
use Rattle.lane_turns.specs.LaneValues.{Tries}
use Rattle.lane_turns.specs.Scanning.{GoesOn, HasLooked, HasLookedRound, HasTriedUntil, TriedAmong, TriedLast}
use Rattle.lane_turns.specs.Workers.{is_set}

-- whether a worker may begin nothing, by what it read: the stop word counts as set, or it keeps the
-- reactor that failed
abbrev pub is_barred : {H X : Type 0} → WorkerState H X → Found → Bool
is_barred worker found = is_some worker.kept || is_set worker.seat found

-- it read the clock word, and with that it may begin nothing, or something
pub record HasReadAs {H X : Type 0} (barred : Bool) (old new : WorkerState H X) : Type 0 where
  pub found : Found
  pub looked : HasLooked old new found
  pub is : is_barred old found ≡ barred

-- and by that it may begin something, and some work is left
pub record HasReadLeft {H X : Type 0} (old new : WorkerState H X) : Type 0 where
  pub found : Found
  pub looked : HasLooked old new found
  pub free : is_barred old found ≡ false
  pub left : found.work ≢ 0

-- it read the clock word, or did nothing
abbrev pub MayHaveRead : {H X : Type 0} → WorkerState H X → WorkerState H X → Type 0
MayHaveRead old new = (new ≡ old) ⊎ ((found : Found) × HasLooked old new found)

-- a turn of it by a worker that stopped the context ends it behind one read
abbrev pub StopsAtOnce : {H X : Type 0} → Option RunEnd → WorkerState H X → WorkerState H X → Type 0
StopsAtOnce result old new = (result ≡ Some end.Stopped) × HasReadAs true old new

-- how a call ends by what was read: no work is left, or nothing may begin, or some is left in a round
-- in which time doesn't pass
abbrev pub Settles : {H X : Type 0} → RunEnd → WorkerState H X → Found → Type 0
Settles end.Ended worker found = (is_barred worker found ≡ false) × (found.work ≡ 0)
Settles end.Stopped worker found = is_barred worker found ≡ true
Settles end.Idle worker found =
    (is_barred worker found ≡ false) × (found.work ≢ 0) × (worker.seat.round.running ≡ false)
Settles end.Fault worker found = ⊥

pub record HasSettled {H X : Type 0} (now : RunEnd) (old new : WorkerState H X) : Type 0 where
  pub found : Found
  pub looked : HasLooked old new found
  pub why : Settles now old found

-- why a call ends by what was read before all looks: nothing may begin, or no work is left
abbrev pub EndsAtOnce : {H X : Type 0} → RunEnd → WorkerState H X → WorkerState H X → Type 0
EndsAtOnce end.Ended old new = HasSettled end.Ended old new
EndsAtOnce end.Stopped old new = HasReadAs true old new
EndsAtOnce end.Idle old new = ⊥
EndsAtOnce end.Fault old new = ⊥

module _ {H X : Type 0} (t : Tries H X) (lanes : ℕ) where
  -- it may begin something, and made attempts at the lanes that came to this
  pub record HasLookedAll (answer : One) (old new : WorkerState H X) : Type 0 where
    pub mid : WorkerState H X
    pub read : HasReadAs false old mid
    pub looked : HasLookedRound t lanes answer mid new

  -- one call of `poll_one`
  abbrev pub HasPolled : One → WorkerState H X → WorkerState H X → Type 0
  HasPolled answer old new =
      ((answer ≡ one.Stopped) × HasReadAs true old new) ⊎ HasLookedAll answer old new

  -- an attempt at each lane came to nothing, and what was read behind them ends the call
  pub record FoundNothing (now : RunEnd) (old new : WorkerState H X) : Type 0 where
    pub before : WorkerState H X
    pub mid : WorkerState H X
    pub since : GoesOn old before
    pub each : (lane : ℕ) → lane < lanes → TriedAmong t lane one.Nothing before mid
    pub settled : HasSettled now mid new

  -- the last that the worker did was an attempt that came to this
  pub record CameLast (answer : One) (old new : WorkerState H X) : Type 0 where
    pub before : WorkerState H X
    pub since : GoesOn old before
    pub last : TriedLast t lanes answer before new

  -- or it read that it may begin nothing
  pub record ReadBarred (old new : WorkerState H X) : Type 0 where
    pub before : WorkerState H X
    pub since : GoesOn old before
    pub read : HasReadAs true before new

  -- or it read that it may begin something, and that no work is left
  pub record ReadEnded (old new : WorkerState H X) : Type 0 where
    pub before : WorkerState H X
    pub since : GoesOn old before
    pub settled : HasSettled end.Ended before new

  -- why a call of `run` ends so
  abbrev pub EndsFor : RunEnd → WorkerState H X → WorkerState H X → Type 0
  EndsFor end.Ended old new = ReadEnded old new
  EndsFor end.Stopped old new = ReadBarred old new
  EndsFor end.Idle old new = FoundNothing end.Idle old new
  EndsFor end.Fault old new = CameLast one.Fault old new

  -- attempts at lanes, and perhaps a read behind them
  pub record HasTriedAndRead (old new : WorkerState H X) : Type 0 where
    pub mid : WorkerState H X
    pub tried : HasTriedUntil t lanes old mid
    pub read : MayHaveRead mid new

  -- all that a call of `run` did: it read, and made attempts at lanes only directly behind a read by which
  -- it might begin something and some work was left, until one came to something
  pub data ReadsAndTries (old : WorkerState H X) : WorkerState H X → Type 0 where
    at_first : ReadsAndTries old old
    has_read : {mid new : WorkerState H X} → ReadsAndTries old mid → MayHaveRead mid new →
        ReadsAndTries old new
    has_tried : {before mid new : WorkerState H X} → ReadsAndTries old before →
        HasReadLeft before mid → HasTriedUntil t lanes mid new → ReadsAndTries old new

-- the last end is kept; after a fault that stays
abbrev pub last_end : Option RunEnd → RunEnd → Option RunEnd
last_end (Some end.Fault) now = Some end.Fault
last_end (Some end.Ended) now = Some now
last_end (Some end.Stopped) now = Some now
last_end (Some end.Idle) now = Some now
last_end None now = Some now

abbrev pub with_end : {H X : Type 0} → WorkerState H X → RunEnd → WorkerState H X
with_end worker now = record worker { last = last_end worker.last now }

-- one call of `run`
pub record HasRun {H X : Type 0} (t : Tries H X) (lanes : ℕ) (now : RunEnd)
    (old new : WorkerState H X) : Type 0 where
  pub ended : WorkerState H X
  pub why : EndsFor t lanes now old ended
  pub turns : ReadsAndTries t lanes old ended
  pub kept : new ≡ with_end ended now

-- one call of `run` by a worker that stopped the context: it read that once, and did nothing else
pub record HasStoppedAtOnce {H X : Type 0} (now : RunEnd) (old new : WorkerState H X) : Type 0 where
  pub is : now ≡ end.Stopped
  pub ended : WorkerState H X
  pub read : HasReadAs true old ended
  pub kept : new ≡ with_end ended end.Stopped
