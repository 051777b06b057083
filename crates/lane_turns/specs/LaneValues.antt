-- The value of a lane as it lies in the table of turns, and what one attempt at it came to,
-- whichever lane it is (Asio reference, io_context::poll_one).
use Rattle.std.specs.Prelude.{◌≡◌, ◌⊎◌, ℕ, zero, suc, ◌<◌, true, Option, Some, None}
use Rattle.op_handlers.specs.Marks.{Marks}
use Rattle.reactor_trait.specs.Reactor.{Outside, ReactorState}
use Rattle.lane_clock.specs.Seats.{ClockId}
use Rattle.lane_logs.specs.Names.{SessionNames}
use Rattle.lane_turns.specs.declared.one.One.{One}
use Rattle.lane_turns.specs.declared.one.One.TheVariants.{Nothing}
use Rattle.lane_turns.specs.Answers.{is_done}
use Rattle.lane_turns.specs.Batons.{BatonView, IsHandlerBaton}
use Rattle.lane_turns.specs.Polling.{CameTo}
use Rattle.lane_turns.specs.ReactorPolling.{TurnCameTo}
use Rattle.lane_turns.specs.Turning.{IsReactorBaton, ReactorView}
use Rattle.lane_turns.specs.Workers.{HasHeard, WorkerView}

-- a lane on which handlers execute, or the reactor's, in its box
pub data LaneValue (H X : Type 0) : Type 0 where
  handlers : (held : Option (BatonView H)) → LaneValue H X
  reactor : (held : Option (ReactorView X)) → LaneValue H X

-- what a session's lanes are told in: its names, the marks of its handlers, what its reactor shows,
-- the count of faults that is named, and its clock
pub record Terms (H X : Type 0) : Type 0 where
  pub names : SessionNames
  pub marks : H → Marks
  pub state : X → ReactorState
  pub told : X → Option Outside
  pub faults : X → ℕ
  pub named : ℕ
  pub clock : ClockId

abbrev pub terms : {H X : Type 0} → SessionNames → (H → Marks) → (X → ReactorState) →
    (X → Option Outside) → (X → ℕ) → ℕ → ClockId → Terms H X
terms names marks state told faults named clock = record {
  names = names;
  marks = marks;
  state = state;
  told = told;
  faults = faults;
  named = named;
  clock = clock;
}

-- and how often a lane is polled at most while its turn is held
pub record Tries (H X : Type 0) : Type 0 where
  pub terms : Terms H X
  pub most : ℕ

abbrev pub tries : {H X : Type 0} → Terms H X → ℕ → Tries H X
tries terms most = record { terms = terms; most = most }

-- the lane that it belongs to
abbrev pub home_of : {H X : Type 0} → LaneValue H X → ℕ
home_of (handlers (Some view)) = view.lane.lane
home_of (handlers None) = 0
home_of (reactor (Some view)) = view.lane.lane
home_of (reactor None) = 0

module _ {H X : Type 0} where
  -- it is one of this session's
  abbrev pub IsBaton : Terms H X → LaneValue H X → Type 0
  IsBaton t (handlers (Some view)) = IsHandlerBaton t.names t.marks t.clock view
  IsBaton t (handlers None) = ⊥
  IsBaton t (reactor (Some view)) =
      IsReactorBaton t.names t.state t.told t.faults t.named t.clock view
  IsBaton t (reactor None) = ⊥

  -- the worker took in what the lane did
  abbrev pub HearsOf : LaneValue H X → WorkerView → WorkerView → Type 0
  HearsOf (handlers (Some view)) old new = HasHeard view.lane.pen.seat view.lane.base old new
  HearsOf (handlers None) old new = ⊥
  HearsOf (reactor (Some view)) old new = HasHeard view.lane.pen.seat view.lane.base old new
  HearsOf (reactor None) old new = ⊥

  -- what an answer says of the lane before and after
  abbrev pub LaneCameTo : Terms H X → One → LaneValue H X → LaneValue H X → Type 0
  LaneCameTo t one (handlers (Some old)) (handlers (Some new)) =
      CameTo t.marks one old.lane new.lane old.hands new.hands
  LaneCameTo t one (reactor (Some old)) (reactor (Some new)) =
      TurnCameTo t.names t.faults one old.lane new.lane old.proactor new.proactor
  LaneCameTo t one _ _ = ⊥

  -- so many attempts, one after another, in each of which something was done
  abbrev pub WorkedOn : Terms H X → ℕ → LaneValue H X → LaneValue H X → Type 0
  WorkedOn t zero before after = before ≡ after
  WorkedOn t (suc count) before after =
      (mid : LaneValue H X) × (one : One) × (is_done one ≡ true) × WorkedOn t count before mid
      × LaneCameTo t one mid after

  -- an attempt that came to this, behind fewer than so many in which something was done
  pub record HasCome (t : Terms H X) (most : ℕ) (answer : One) (before after : LaneValue H X)
      : Type 0 where
    pub count : ℕ
    pub few : count < most
    pub earlier : LaneValue H X
    pub worked : WorkedOn t count before earlier
    pub came : LaneCameTo t answer earlier after

  -- and where something was done in it, at most one more, that came to nothing
  abbrev pub Rests : Terms H X → ℕ → One → LaneValue H X → LaneValue H X → Type 0
  Rests t most answer last after =
      (after ≡ last)
      ⊎ ((1 < most) × (is_done answer ≡ true) × LaneCameTo t Nothing last after)

  pub record HasWorked (t : Terms H X) (most : ℕ) (answer : One) (before after : LaneValue H X)
      : Type 0 where
    pub last : LaneValue H X
    pub reached : HasCome t most answer before last
    pub rest : Rests t most answer last after

-- it is filled
abbrev pub IsFilled : {H X : Type 0} → LaneValue H X → Type 0
IsFilled (handlers (Some view)) = Unit {0}
IsFilled (handlers None) = ⊥
IsFilled (reactor (Some view)) = Unit {0}
IsFilled (reactor None) = ⊥
