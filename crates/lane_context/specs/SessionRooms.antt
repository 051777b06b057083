-- The room for a session's lanes and workers, all of which is made before it begins, this project's
-- own.
use Rattle.std.specs.Prelude.{◌≡◌, ℕ, List, [], None, Some, length}
use Rattle.std.specs.Global.{Vec}
use Rattle.session_script.specs.Script.{ScriptModel}
use Rattle.strand_core.specs.declared.posted.Posted.{Posted}
use Rattle.lane_turns.specs.Attempts.{IsCallRoom, WorkerState}
use Rattle.lane_turns.specs.Rooms.{EachAt}
use Rattle.lane_turns.specs.Workers.{WorkerView}

-- so many workers' rooms for the calls of an execution
abbrev pub AreCallRooms : ScriptModel → ℕ → List (Vec Posted) → Type 0
AreCallRooms script count rooms =
    (length rooms ≡ count) × EachAt (λ k room. IsCallRoom script (Some room)) rooms

module _ {H X : Type 0} where
  -- a worker that keeps no lane, made no call and drew nothing
  pub record IsFresh (worker : WorkerState H X) : Type 0 where
    pub kept : worker.kept ≡ None
    pub last : worker.last ≡ None
    pub log : worker.seat.pen.log ≡ []

  -- all of them are
  abbrev pub AreFresh : List (WorkerState H X) → Type 0
  AreFresh all = EachAt (λ k worker. IsFresh worker) all

  -- a worker with its seat of the clock, and none of the table yet
  abbrev pub standing_by : WorkerView → WorkerState H X
  standing_by seat = record { seat = seat; turns = None; kept = None; last = None }
