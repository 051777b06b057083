-- Whom the opener meets at an event, lanes and workers alike: before it the opener takes in what
-- each did, and behind it each takes in the event, and the opener that.
use Rattle.std.specs.Prelude.{◌≡◌, ◌≢◌, ℕ, ◌+◌, ◌<◌, List, [], ◌∷◌, ◌++◌, Some, slice_get}
use Rattle.asio_types.specs.declared.event.Event.{Event}
use Rattle.session_script.specs.Script.{ScriptModel}
use Rattle.lane_clock.specs.declared.found.Change.{Change}
use Rattle.lane_clock.specs.declared.found.Found.{Found}
use Rattle.lane_clock.specs.declared.step.ClockStep.{ClockStep}
use Rattle.lane_clock.specs.declared.step.ClockStep.TheVariants.{Draw}
use Rattle.lane_clock.specs.Knowledge.{StartOf}
use Rattle.lane_clock.specs.Seats.{Owns, Remembers, SeatView, own}
use Rattle.lane_clock.specs.Steps.{draw_count, step_count}
use Rattle.lane_logs.specs.Knowing.{joined_count, lists_of}
use Rattle.lane_turns.specs.Batons.{opener_known}
use Rattle.lane_turns.specs.Openers.{HaveMet, OpenerView}

-- the opener went on without a draw
pub record HasGoneOn (old new : OpenerView) : Type 0 where
  pub remembers : Remembers old.pen.seat new.pen.seat
  pub number : new.pen.seat.number ≡ old.pen.seat.number
  pub draws : step_count draw_count (own new.pen.seat) ≡ step_count draw_count (own old.pen.seat)
  pub log : new.pen.log ≡ old.pen.log
  pub stand : new.stand ≡ old.stand

-- the opener knows all that a seat did, and that no more of the opener than it did
pub record IsHeard (script : ScriptModel) (opener : OpenerView) (seat : SeatView) : Type 0 where
  pub heard : StartOf (own seat) (lists_of opener.pen.seat seat.number)
  pub behind : StartOf (opener_known script seat) (own opener.pen.seat)

-- each of the first of a list was heard
abbrev pub AreHeard : {T : Type 0} → (T → SeatView) → ScriptModel → OpenerView → List T → ℕ → Type 0
AreHeard {T} seat script opener all count =
    (k : ℕ) (one : T) → k < count → slice_get all k ≡ Some one → IsHeard script opener (seat one)

-- the opener knows all that each of the first of a list knows
abbrev pub AreKnown : {T : Type 0} → (T → SeatView) → OpenerView → List T → ℕ → Type 0
AreKnown {T} seat opener all count =
    (k : ℕ) (one : T) → k < count → slice_get all k ≡ Some one → Remembers (seat one) opener.pen.seat

-- a seat and the opener met, between what the opener was at first and what it is now
pub record HasAttended (script : ScriptModel) (first last : OpenerView) (before after : SeatView)
    : Type 0 where
  pub old : OpenerView
  pub new : OpenerView
  pub since : HasGoneOn first old
  pub met : HaveMet script old new before after
  pub owns : Owns before before.number
  pub till : HasGoneOn new last

-- each of the first of a list did, and the others are as they were
pub record HaveAttended {T : Type 0} (seat : T → SeatView) (script : ScriptModel)
    (first last : OpenerView) (olds news : List T) (count : ℕ) : Type 0 where
  pub met : (k : ℕ) (old new : T) → k < count → slice_get olds k ≡ Some old →
      slice_get news k ≡ Some new → HasAttended script first last (seat old) (seat new)
  pub rest : (k : ℕ) → count < k + 1 → slice_get news k ≡ slice_get olds k

-- the opener's own steps since, of which the last is a draw; they took nothing in
pub record HasDrawnLast (before after : SeatView) : Type 0 where
  pub front : List ClockStep
  pub shown : Event
  pub changes : Change
  pub found : Found
  pub steps : own after ≡ own before ++ (front ++ Draw shown changes found ∷ [])
  pub quiet : (n : ℕ) → joined_count n front ≡ 0
  pub number : after.number ≡ before.number
  pub others : (n : ℕ) → n ≢ before.number → lists_of after n ≡ lists_of before n

-- the opener knows all that each of a list does
abbrev pub KnowsAllOf : {T : Type 0} → (T → SeatView) → OpenerView → List T → Type 0
KnowsAllOf {T} seat opener all =
    (k : ℕ) (one : T) → slice_get all k ≡ Some one → Remembers (seat one) opener.pen.seat
