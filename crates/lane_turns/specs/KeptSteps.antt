-- What workers keep of what they knew, and what the logs of a session that is over keep of their own steps
-- (these are this project's own).
use Rattle.std.specs.Prelude.{◌≡◌, ℕ, ◌+◌, List, IfSome, Some, slice_get}
use Rattle.session_script.specs.Script.{ScriptModel}
use Rattle.lane_clock.specs.Seats.{Remembers, SeatView, own}
use Rattle.lane_logs.specs.Logs.{LogsView}
use Rattle.lane_logs.specs.SeatNumbers.{lane_count}

-- all steps of each worker are there, at its number
abbrev pub KeepStepsOf : {T : Type 0} → (T → SeatView) → ScriptModel → LogsView → List T → Type 0
KeepStepsOf seat script logs all =
    (k : ℕ) → IfSome (slice_get all k) (λ one. logs.lists (lane_count script + k) ≡ own (seat one))

-- who an element of a list was before: it knew no more
pub record KnewBefore {T : Type 0} (seat : T → SeatView) (olds : List T) (k : ℕ) (new : T) : Type 0 where
  pub old : T
  pub was : slice_get olds k ≡ Some old
  pub remembers : Remembers (seat old) (seat new)

-- each knows all that it knew
abbrev pub AllRemember : {T : Type 0} → (T → SeatView) → List T → List T → Type 0
AllRemember {T} seat olds news =
    (k : ℕ) (new : T) → slice_get news k ≡ Some new → KnewBefore seat olds k new
