-- The bench: at an event of the opener the batons of all lanes lie before it, in the order of their
-- numbers, and beside them the seats of all workers. Whole events, this project's own: what each
-- did is heard, the event is drawn, and each takes it in (Asio reference, io_context::run,
-- ::restart).
use Rattle.std.specs.Prelude.{◌≡◌, ℕ, ◌+◌, ◌<◌, Bool, List, Some, length, map, slice_get, slice_index}
use Rattle.session_script.specs.Script.{ScriptModel}
use Rattle.lane_clock.specs.declared.step.ClockStep.{ClockStep}
use Rattle.lane_clock.specs.Seats.{SeatView, own}
use Rattle.lane_map.specs.LaneNumbers.{reactor_lane}
use Rattle.lane_logs.specs.Cuts.{HaveStarted, NoneStops}
use Rattle.lane_logs.specs.Stand.{base_at, Stand}
use Rattle.lane_logs.specs.SeatNumbers.{lane_count, worker_count}
use Rattle.lane_turns.specs.Attending.{HasGoneOn, HaveAttended}
use Rattle.lane_turns.specs.Openers.{OpenerView, is_running_at}

-- so many seats, whose numbers are one after another from the first on
pub record IsRow {T : Type 0} (seat : T → SeatView) (first count : ℕ) (all : List T) : Type 0 where
  pub size : length all ≡ count
  pub numbers : (k : ℕ) (one : T) → slice_get all k ≡ Some one → (seat one).number ≡ first + k

-- the batons of all lanes
abbrev pub AreLanes : {T : Type 0} → (T → SeatView) → ScriptModel → List T → Type 0
AreLanes seat script all = IsRow seat 0 (lane_count script) all

-- the seats of all workers
abbrev pub AreWorkers : {T : Type 0} → (T → SeatView) → ScriptModel → List T → Type 0
AreWorkers seat script all = IsRow seat (lane_count script) (worker_count script) all

-- of each the next place of its lane
abbrev pub places_of : {T : Type 0} → (T → ℕ) → List T → List ℕ
places_of place all = map place all

-- of each lane the notes at the places before one were executed or taken, as far as is known
abbrev pub AreStartedAt : ScriptModel → (ℕ → List ClockStep) → List ℕ → Type 0
AreStartedAt script lists places =
    (lane : ℕ) → lane < lane_count script → HaveStarted (lists lane) lane (slice_index places lane)

-- of each of the first of a list the notes at the places before its next were executed or taken
abbrev pub HaveAllStarted : {T : Type 0} → (T → SeatView) → (T → ℕ) → List T → ℕ → Type 0
HaveAllStarted {T} seat place all count =
    (k : ℕ) (one : T) → k < count → slice_get all k ≡ Some one →
    HaveStarted (own (seat one)) (seat one).number (place one)

-- the reactor hasn't failed, by what its own lane did
abbrev pub ReactorGoesOn : {T : Type 0} → (T → SeatView) → ScriptModel → List T → Type 0
ReactorGoesOn {T} seat script lanes =
    (one : T) → slice_get lanes (reactor_lane script) ≡ Some one → NoneStops (own (seat one))

-- it may begin something where the rounds stand so, and knows whether time may pass
pub record IsInRound (script : ScriptModel) (stand : Stand) (base : ℕ) (running : Bool) : Type 0 where
  pub base_is : base ≡ base_at script stand
  pub running_is : running ≡ is_running_at script stand

-- each of the first of a list does
abbrev pub AreInRound : {T : Type 0} → (T → ℕ) → (T → Bool) → ScriptModel → Stand → List T → ℕ → Type 0
AreInRound {T} base running script stand all count =
    (k : ℕ) (one : T) → k < count → slice_get all k ≡ Some one →
    IsInRound script stand (base one) (running one)

-- the opener heard of all, drew, and met all
pub record HasHeld (drawn : OpenerView → OpenerView → Type 0) (old new : OpenerView) : Type 0 where
  pub before : OpenerView
  pub after : OpenerView
  pub heard : HasGoneOn old before
  pub drew : drawn before after
  pub met : HasGoneOn after new

-- all lanes and then all workers met the opener behind an event
pub record HaveAllMet {L W : Type 0} (lane : L → SeatView) (worker : W → SeatView) (script : ScriptModel)
    (first last : OpenerView) (lanes lanes_now : List L) (workers workers_now : List W) : Type 0 where
  pub mid : OpenerView
  pub on_mid : HasGoneOn first mid
  pub on_last : HasGoneOn mid last
  pub lanes_size : length lanes_now ≡ length lanes
  pub workers_size : length workers_now ≡ length workers
  pub lanes_met : HaveAttended lane script first mid lanes lanes_now (length lanes)
  pub workers_met : HaveAttended worker script mid last workers workers_now (length workers)
