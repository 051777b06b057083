-- A worker as contracts see it, and its attempts to do something at lanes (Asio reference,
-- io_context::poll_one; turns are this project's own).
use Rattle.std.specs.Prelude.{◌≡◌, ◌⊎◌, ℕ, ◌≤◌, Bool, true, false, [], ◌∷◌, Option, Some, None, if◌then◌else◌}
use Rattle.std.specs.Global.{Vec}
use Rattle.std.specs.Prelude.{vec_capacity}
use Rattle.session_script.specs.Script.{ScriptModel}
use Rattle.strand_core.specs.declared.posted.Posted.{Posted}
use Rattle.turn_table.specs.Seated.{HasTurn, IsSeatOf, Lanes, Seated, with_miss, with_turn}
use Rattle.lane_turns.specs.declared.one.One.{One}
use Rattle.lane_turns.specs.declared.one.One.TheVariants as one
use Rattle.lane_turns.specs.declared.run_end.RunEnd.{RunEnd}
use Rattle.lane_turns.specs.declared.run_end.RunEnd.TheVariants as end
use Rattle.lane_turns.specs.Answers.{is_fault}
use Rattle.lane_turns.specs.LaneValues.{HasWorked, HearsOf, IsBaton, LaneValue, Tries, home_of}
use Rattle.lane_turns.specs.Polling.{most_made}
use Rattle.lane_turns.specs.Workers.{WorkerView}

pub record WorkerState (H X : Type 0) : Type 0 where
  -- its seat of the clock, with its log
  pub seat : WorkerView
  -- its seat at the table of turns, unless another has gathered it
  pub turns : Option Seated
  -- the reactor's lane, which it keeps after a fault
  pub kept : Option (LaneValue H X)
  -- how its last call of `run` ended; after a fault that stays
  pub last : Option RunEnd

-- it has the turn of the lane that it keeps, and no other
abbrev pub HoldsTurns : {H X : Type 0} → Option (LaneValue H X) → Option Seated → Type 0
HoldsTurns None None = Unit {0}
HoldsTurns None (Some seat) = seat.turns ≡ []
HoldsTurns (Some value) None = ⊥
HoldsTurns (Some value) (Some seat) = seat.turns ≡ home_of value ∷ []

-- it keeps a lane only after a fault
abbrev pub KeepsAfterFault : {H X : Type 0} → Option (LaneValue H X) → Option RunEnd → Type 0
KeepsAfterFault None last = Unit {0}
KeepsAfterFault (Some value) last = last ≡ Some end.Fault

-- room for the calls of an execution
abbrev pub IsCallRoom : ScriptModel → Option (Vec Posted) → Type 0
IsCallRoom script None = ⊥
IsCallRoom script (Some made) = (made.items ≡ []) × (most_made script ≤ vec_capacity made)

-- a worker's seats
pub record WorkerAt : Type 0 where
  pub seat : WorkerView
  pub turns : Seated

-- the worker has its seat at this table
pub record IsSeated {H X : Type 0} (lanes : Lanes) (worker : WorkerState H X) : Type 0 where
  pub seat : Seated
  pub is : worker.turns ≡ Some seat
  pub fits : IsSeatOf lanes seat

module _ {H X : Type 0} (t : Tries H X) (lane : ℕ) where
  -- another had the lane's turn
  pub record WasHeld (answer : One) (old new : WorkerAt) (kept : Option (LaneValue H X))
      : Type 0 where
    pub nothing : answer ≡ one.Nothing
    pub other : ¬ HasTurn old.turns lane
    pub missed : new.turns ≡ with_miss lane old.turns
    pub seat : new.seat ≡ old.seat
    pub none : kept ≡ None

  -- the turn is given again, but after a fault the worker keeps it and the lane
  abbrev pub Gives : Bool → LaneValue H X → Seated → Seated → Option (LaneValue H X) → Type 0
  Gives false after old new kept = (new ≡ old) × (kept ≡ None)
  Gives true after old new kept = (new ≡ with_turn lane old) × (kept ≡ Some after)

  -- the worker had the lane's turn: it took in what the lane had done, attempts came to this, and it
  -- took in what the lane did then
  pub record HadTurn (answer : One) (old new : WorkerAt) (kept : Option (LaneValue H X))
      : Type 0 where
    pub before : LaneValue H X
    pub after : LaneValue H X
    pub is : IsBaton t.terms before
    pub still : IsBaton t.terms after
    pub home : home_of before ≡ lane
    pub stays : home_of after ≡ lane
    pub mid : WorkerView
    pub heard : HearsOf before old.seat mid
    pub worked : HasWorked t.terms t.most answer before after
    pub learned : HearsOf after mid new.seat
    pub given : Gives (is_fault answer) after old.turns new.turns kept

  abbrev pub HasTried : One → WorkerAt → WorkerAt → Option (LaneValue H X) → Type 0
  HasTried answer old new kept = WasHeld answer old new kept ⊎ HadTurn answer old new kept

  -- one attempt of a worker at a lane
  pub record HasAttempted (answer : One) (old new : WorkerState H X) : Type 0 where
    pub from : Seated
    pub to : Seated
    pub from_is : old.turns ≡ Some from
    pub to_is : new.turns ≡ Some to
    pub free : old.kept ≡ None
    pub tried : HasTried answer (record { seat = old.seat; turns = from })
        (record { seat = new.seat; turns = to }) new.kept
    pub last : new.last ≡ (if is_fault answer then Some end.Fault else old.last)
