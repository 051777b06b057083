-- The numbers of a session's seats, this project's own: those of the lanes, then those of the
-- workers, and last the opener, who makes the calls of `open` and closes and restarts rounds.
use Rattle.std.specs.Prelude.{ℕ, ◌+◌, ◌<◌, ◌≤◌, List, [], ◌∷◌, length, max}
use Rattle.session_script.specs.Script.{ScriptModel}
use Rattle.session_script.specs.declared.round.Round.{Round}
use Rattle.lane_map.specs.LaneNumbers.{lane_list}

abbrev pub lane_count : ScriptModel → ℕ
lane_count script = length (lane_list script)

-- the greatest number of workers that a round has
abbrev pub most_workers : List Round → ℕ
most_workers [] = 0
most_workers (round ∷ rounds) = max round.workers (most_workers rounds)

-- one worker more, who is the caller
abbrev pub worker_count : ScriptModel → ℕ
worker_count script = most_workers script.rounds + 1

abbrev pub opener_seat : ScriptModel → ℕ
opener_seat script = lane_count script + worker_count script

abbrev pub seat_count : ScriptModel → ℕ
seat_count script = opener_seat script + 1

-- the number of a worker's seat
pub record IsWorkerSeat (script : ScriptModel) (n : ℕ) : Type 0 where
  pub behind : lane_count script ≤ n
  pub before : n < opener_seat script
