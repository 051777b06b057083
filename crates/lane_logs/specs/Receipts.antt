-- A receipt, which says how an operation completed, or that it was posted and is ready; and whose it is, by the
-- steps of a seat (Asio reference, Overview, "The Proactor Design Pattern": completion event queue; the cells
-- are this project's own).
use Rattle.std.specs.Prelude.{◌≡◌, ◌≢◌, ℕ, Bool, false, ◌==◌, List, Option, Some, None}
use lib.ListN.{get_elem?}
use mathlib.Core.Option.{some}
use Rattle.session_script.specs.Script.{ScriptModel}
use Rattle.lane_clock.specs.declared.note.Note.{Note}
use Rattle.lane_clock.specs.declared.step.ClockStep.{ClockStep}
use Rattle.lane_clock.specs.declared.step.ClockStep.TheVariants.{Look}
use Rattle.lane_map.specs.LaneNumbers.{reactor_lane}
use Rattle.lane_logs.specs.declared.receipt.Receipt.{Receipt}

-- the note of which it tells
abbrev pub note_of : Receipt → Note
note_of receipt = record { op = receipt.op; code = receipt.code; size = receipt.size }

-- whether a cell held a note of the operation
abbrev pub holds_op : ℕ → Option Note → Bool
holds_op op None = false
holds_op op (Some note) = note.op == op

-- a receipt of whoever made these steps: one of its looks saw the note, on a lane where handlers execute
pub record IsReceiptOf (script : ScriptModel) (steps : List ClockStep) (receipt : Receipt) : Type 0 where
  pub at : ℕ
  pub lane : ℕ
  pub off : lane ≢ reactor_lane script
  pub saw : get_elem? steps at ≡ some (Look lane receipt.place (Some (note_of receipt)))
