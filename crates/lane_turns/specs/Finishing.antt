-- The end of a session without a lock: what is known when all seats were taken in and the clock is
-- closed, and what is given back (Asio reference, io_context::~io_context).
use Rattle.std.specs.Prelude.{◌≡◌, ◌⊎◌, ◌≤◌, ◌+◌, ℕ, Bool, true, false, List, [], ◌∷◌, ◌++◌, Option, IfSome, IsTrue, length, map, slice_get}
use Rattle.asio_types.specs.Faults.{Rose}
use Rattle.session_script.specs.Script.{ScriptModel}
use Rattle.history_rules.specs.State.{ReactorHalf}
use Rattle.reactor_trait.specs.Reactor.{Outside, ReactorState}
use Rattle.proactor_core.specs.Proactor.{sent_to_peer, tells}
use Rattle.lane_clock.specs.declared.found.Found.{Found}
use Rattle.lane_clock.specs.Closing.{Closed}
use Rattle.lane_clock.specs.Seats.{ClockId, SeatView, copy_seat}
use Rattle.lane_logs.specs.declared.log.LogEntry.{LogEntry}
use Rattle.lane_logs.specs.Logs.{LogsView, entries_of}
use Rattle.lane_logs.specs.Knowing.{lists_of}
use Rattle.lane_logs.specs.SeatNumbers.{lane_count}
use Rattle.lane_turns.specs.Batons.{BatonView, LaneView}
use Rattle.lane_turns.specs.KnownFaults.{KnowsFault}
use Rattle.lane_turns.specs.Openers.{IsOpener, OpenerView}
use Rattle.lane_turns.specs.Pens.{PenView}
use Rattle.lane_turns.specs.TakingIn.{AreTakenIn}
use Rattle.lane_turns.specs.Workers.{WorkerView}

-- all rounds are closed, or the opener knows that the reactor failed
abbrev pub IsOver : ScriptModel → OpenerView → Type 0
IsOver script opener =
    (opener.stand.closings ≡ length script.rounds) ⊎ KnowsFault script opener.pen.seat

-- the opener took in these pens, and closed the clock with all that it knew then
pub record AreClosed (script : ScriptModel) (clock : ClockId) (pens : List PenView)
    (first : OpenerView) (entries : List (List LogEntry)) (known : SeatView) (last : Found)
    : Type 0 where
  pub opener : OpenerView
  pub is : IsOpener script clock opener
  pub taken : AreTakenIn script pens first opener
  pub same : known ≡ copy_seat opener.pen.seat
  pub entries_are : entries ≡ map (λ pen. pen.log) pens ++ opener.pen.log ∷ []
  pub closed : Closed (lists_of opener.pen.seat) clock.plan last

-- the lanes of a session, of which the reactor's is the last
abbrev pub lanes_in : {H : Type 0} → List (BatonView H) → LaneView → List LaneView
lanes_in batons reactor = map (λ baton. baton.lane) batons ++ reactor ∷ []

-- the pens of lanes and of workers, in the order of their numbers
abbrev pub pens_of : List LaneView → List WorkerView → List PenView
pens_of lanes workers = map (λ lane. lane.pen) lanes ++ map (λ worker. worker.pen) workers

-- the log of each worker is kept at its number
abbrev pub KeepLogsOf : {T : Type 0} → (T → List LogEntry) → ScriptModel → LogsView → List T → Type 0
KeepLogsOf log script logs all =
    (k : ℕ) → IfSome (slice_get all k) (λ one. entries_of logs (lane_count script + k) ≡ log one)

-- the reactor that is given back: it tells its bytes as it did, it is up, its time is that of the last
-- turn, its bytes are those that were sent, and its count of faults rose where it failed and only there
pub record IsGivenBack (told : Bool) (half : ReactorHalf) (before after : ℕ) (state : ReactorState)
    (outside : Option Outside) : Type 0 where
  pub tells : tells outside ≡ told
  pub up : IsTrue state.up
  pub now : state.now ≡ half.now
  pub least : before ≤ after
  pub rose : half.failed ≡ true → Rose before after
  pub stood : half.failed ≡ false → after ≡ before
  pub sent : half.failed ≡ false →
      IfSome outside
      (λ outside. map sent_to_peer outside.streams ≡ map sent_to_peer half.streams)
