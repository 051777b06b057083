-- One completion with a pen: the operation gets a place on its lane, its event a position, and behind
-- that it is put there (Asio reference, Overview, "The Proactor Design Pattern").
use Rattle.std.specs.Prelude.{◌≡◌, ℕ, ◌<◌, ◌≤◌, true, false, List, [], ◌∷◌, slice_index}
use Rattle.session_script.specs.Script.{ScriptModel}
use Rattle.lane_clock.specs.declared.found.Found.{Found}
use Rattle.lane_clock.specs.declared.note.Note.{Note}
use Rattle.lane_clock.specs.Seats.{own}
use Rattle.lane_clock.specs.Steps.{has_drawn, has_put}
use Rattle.lane_logs.specs.Labels.{allots}
use Rattle.lane_logs.specs.ReactorTurns.{done_labels}
use Rattle.lane_turns.specs.Pens.{HasGone, PenView}

-- a place of a lane was drawn for an act, which has a cell that isn't put yet
pub record HasPlace (cells : List ℕ) (lane place act : ℕ) (old new : PenView) : Type 0 where
  pub within : place < slice_index cells lane
  pub drawn : has_drawn lane place (own new.seat) ≡ true
  pub fresh : has_put lane place (own new.seat) ≡ false
  pub gone : HasGone (allots act lane place ∷ []) old new

-- or one that is beyond the lane's cells
pub record HasPlaceBeyond (cells : List ℕ) (lane act : ℕ) (old new : PenView) : Type 0 where
  pub place : ℕ
  pub beyond : slice_index cells lane ≤ place
  pub gone : HasGone (allots act lane place ∷ []) old new

-- the completion of an operation was told, with its code and size
pub record HasToldDone (script : ScriptModel) (note : Note) (old new : PenView) : Type 0 where
  pub place : ℕ
  pub found : Found
  pub gone : HasGone (done_labels script note.op note.code note.size place found) old new
