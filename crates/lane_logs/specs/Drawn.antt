-- What a seat's log has by its steps alone: of each draw the event that was told to it, at the position that it
-- found (Asio reference, Overview, "Strands: Use Threads Without Explicit Locking"; the draws are this project's own).
use Rattle.std.specs.Prelude.{◌≡◌, ℕ, ◌<◌, List, [], ◌∷◌}
use Rattle.lane_clock.specs.declared.step.ClockStep.{ClockStep}
use Rattle.lane_clock.specs.declared.step.ClockStep.TheVariants.{Draw, Load, Place, Put, Look, Join}
use Rattle.lane_logs.specs.declared.log.LogEntry.{LogEntry}
use Rattle.lane_logs.specs.Logs.{LogsView, AreLogs, entries_of}
use Rattle.lane_logs.specs.Names.{SessionNames}
use Rattle.lane_logs.specs.SeatNumbers.{seat_count}

-- the entries of draws
abbrev pub entries_drawn : List ClockStep → List LogEntry
entries_drawn [] = []
entries_drawn (Draw shown change found ∷ steps) =
    record { position = found.clock; event = shown } ∷ entries_drawn steps
entries_drawn (Load found ∷ steps) = entries_drawn steps
entries_drawn (Place lane place ∷ steps) = entries_drawn steps
entries_drawn (Put lane place note ∷ steps) = entries_drawn steps
entries_drawn (Look lane place held ∷ steps) = entries_drawn steps
entries_drawn (Join counts ∷ steps) = entries_drawn steps

-- the logs of a session have nothing else: each event was fixed when its position was drawn
abbrev pub LogsAreDrawn : Type 0
LogsAreDrawn = (names : SessionNames) (logs : LogsView) → AreLogs names logs → (n : ℕ) →
    n < seat_count names.script → entries_of logs n ≡ entries_drawn (logs.lists n)
