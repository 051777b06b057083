-- A worker with its seats, and all workers with theirs.
use Rattle.std.proofs.Common.{◌≡◌, ℕ, List, Some}
use Rattle.std.specs.Prelude.{slice_get}
use Rattle.session_script.specs.Script.{ScriptModel}
use Rattle.turn_table.specs.Seated.{Lanes}
use Rattle.lane_turns.specs.AllWorkers.{AreReady}
use Rattle.lane_turns.specs.Attempts.{IsSeated, WorkerState}
use Rattle.op_future.specs.SeatedWorkers.{IsReadyAs}

module _ {H X : Type 0} (script : ScriptModel) (lanes : Lanes) where
  pub is_seated : (number : ℕ) (one : WorkerState H X) → IsReadyAs script lanes number one → IsSeated lanes one
  is_seated number one ready = record { seat = ready.seat.seat; is = ready.seat.is; fits = ready.seat.fits }

  -- each of all workers that have their seats
  pub ready_at : (all : List (WorkerState H X)) → AreReady script lanes all → (k : ℕ) (one : WorkerState H X) →
      slice_get all k ≡ Some one → IsReadyAs script lanes k one
  ready_at all ready k one at =
      record { row = ready.rows.numbers k one at; seat = ready.seats.each k one at }
