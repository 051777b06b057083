-- What a worker sees of an operation while others work: a receipt, which says how it completed, or
-- that it was posted and is ready (Asio reference, Overview, "The Proactor Design Pattern":
-- completion event queue; the cells are this project's own).
use Rattle.std.specs.Prelude.{◌≡◌, ℕ, ◌+◌, false, List, [], ◌∷◌, ◌++◌, Option, Some, None, length, slice_index}
use Rattle.std.specs.List.{list_any}
use Rattle.session_script.specs.Script.{ScriptModel}
use Rattle.lane_clock.specs.declared.note.Note.{Note}
use Rattle.lane_clock.specs.declared.step.ClockStep.TheVariants.{Look}
use Rattle.lane_map.specs.LaneNumbers.{cells_of, home_lane}
use Rattle.lane_logs.specs.declared.receipt.Receipt.{Receipt}
use Rattle.lane_logs.specs.Labels.{Labelled, silent}
use Rattle.lane_logs.specs.Receipts.{holds_op, note_of}
use Rattle.lane_turns.specs.Pens.{HasGone}
use Rattle.lane_turns.specs.Workers.{WorkerView}

-- a worker's seat made these steps, and it keeps where the rounds stand
pub record SeatHasGone (labels : List Labelled) (old new : WorkerView) : Type 0 where
  pub gone : HasGone labels old.pen new.pen
  pub round : new.round ≡ old.round
  pub drew : new.drew ≡ old.drew
  pub stopped : new.stopped ≡ old.stopped
  pub in_step : new.in_step ≡ old.in_step

-- looks at the cells of a lane one after another, from this place on, which held these
abbrev pub looks_from : ℕ → ℕ → List (Option Note) → List Labelled
looks_from lane place [] = []
looks_from lane place (held ∷ seen) = silent (Look lane place held) ∷ looks_from lane (place + 1) seen

-- what looking at the cells of a lane comes to, for whoever goes on by labelled steps
module _ {V : Type 0} (Gone : List Labelled → V → V → Type 0) where
  -- the first cells of a lane, looked at one after another, held these, none a note of the operation
  pub record HaveOthers (lane op : ℕ) (seen : List (Option Note)) (old new : V) : Type 0 where
    pub none : list_any (holds_op op) seen ≡ false
    pub gone : Gone (looks_from lane 0 seen) old new

  -- the cell at the receipt's place held the operation's note, those before it others or nothing
  pub record HasFound (lane op : ℕ) (receipt : Receipt) (old new : V) : Type 0 where
    pub others : List (Option Note)
    pub none : list_any (holds_op op) others ≡ false
    pub place : receipt.place ≡ length others
    pub same : receipt.op ≡ op
    pub gone : Gone (looks_from lane 0 (others ++ Some (note_of receipt) ∷ [])) old new

  -- each of so many cells held another note, or nothing
  pub record HasFoundNone (lane cells op : ℕ) (old new : V) : Type 0 where
    pub seen : List (Option Note)
    pub all : length seen ≡ cells
    pub others : HaveOthers lane op seen old new

  abbrev pub FindsIn : ℕ → ℕ → ℕ → Option Receipt → V → V → Type 0
  FindsIn lane cells op (Some receipt) old new = HasFound lane op receipt old new
  FindsIn lane cells op None old new = HasFoundNone lane cells op old new

-- what a worker's looking for an operation among the cells of its lane comes to
abbrev pub Finds : ScriptModel → ℕ → Option Receipt → WorkerView → WorkerView → Type 0
Finds script op answer old new =
    FindsIn SeatHasGone (home_lane script op) (slice_index (cells_of script) (home_lane script op)) op answer old new
