-- What a worker has besides where it stands, which no event of the opener changes (this project's
-- own).
use Rattle.std.specs.Prelude.{Bool, false, List, [], Option, None, map, is_some}
use Rattle.turn_table.specs.Seated.{Seated}
use Rattle.lane_logs.specs.declared.log.LogEntry.{LogEntry}
use Rattle.lane_turns.specs.declared.run_end.RunEnd.{RunEnd}
use Rattle.lane_turns.specs.Attempts.{WorkerState}

pub record Besides : Type 0 where
  pub turns : Option Seated
  -- whether it keeps the reactor's lane
  pub keeps : Bool
  pub last : Option RunEnd
  -- the stops that it drew
  pub log : List LogEntry

-- of a worker's seat of the clock alone
abbrev pub only_log : List LogEntry → Besides
only_log log = record { turns = None; keeps = false; last = None; log = log }

-- of who is no worker
abbrev pub nothing_besides : Besides
nothing_besides = only_log []

abbrev pub besides_of : {H X : Type 0} → WorkerState H X → Besides
besides_of worker = record {
  turns = worker.turns;
  keeps = is_some worker.kept;
  last = worker.last;
  log = worker.seat.pen.log;
}

-- of each
abbrev pub rests_of : {T : Type 0} → (T → Besides) → List T → List Besides
rests_of rest all = map rest all
