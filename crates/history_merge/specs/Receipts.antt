-- What receipts say of the history of the whole session: an operation that a worker saw as completed
-- completed so, and those of one lane in the order of their places (Asio reference, Overview, "The
-- Proactor Design Pattern": completion event queue).
use Rattle.std.specs.Prelude.{◌≡◌, ◌≢◌, ◌⊎◌, ℕ, ◌+◌, ◌<◌, true, false, List, Option, length, slice_index, take}
use lib.ListN.{get_elem?}
use mathlib.Core.Option.{some}
use Rattle.asio_types.specs.declared.code.Code.{Code}
use Rattle.asio_types.specs.declared.code.Code.TheVariants as code
use Rattle.asio_types.specs.declared.event.Event.{Event}
use Rattle.asio_types.specs.declared.event.Event.TheVariants as event
use Rattle.session_script.specs.Script.{ScriptModel}
use Rattle.session_script.specs.WellFormed.{IsWellFormed}
use Rattle.history_rules.specs.Kinds.{is_act, is_posting}
use Rattle.lane_clock.specs.declared.found.Change.{Change}
use Rattle.lane_clock.specs.declared.found.Found.{Found}
use Rattle.lane_clock.specs.declared.note.Note.{Note}
use Rattle.lane_clock.specs.declared.step.ClockStep.{ClockStep}
use Rattle.lane_clock.specs.declared.step.ClockStep.TheVariants.{Draw, Look, Join}
use Rattle.lane_clock.specs.Rule.{StepAt}
use Rattle.lane_map.specs.LaneNumbers.{cells_of, has_cell, home_lane}
use Rattle.lane_logs.specs.declared.receipt.Receipt.{Receipt}
use Rattle.lane_logs.specs.AtRest.{FoundNoneFrom, IsAtRest}
use Rattle.lane_logs.specs.Drops.{has_call}
use Rattle.lane_logs.specs.Logs.{AreLogs, LogsView}
use Rattle.lane_logs.specs.Names.{SessionNames}
use Rattle.lane_logs.specs.Receipts.{IsReceiptOf, holds_op}
use Rattle.lane_logs.specs.SeatNumbers.{opener_seat}
use Rattle.lane_logs.specs.Stand.{Stand, is_round_open, stand_of}
use Rattle.history_merge.specs.Merging.{IsMerging}

-- the completion of which a receipt tells
abbrev pub done_of : Receipt → Event
done_of receipt = event.Done receipt.op receipt.code receipt.size

-- it is in the history
pub record HasCompleted (events : List Event) (receipt : Receipt) : Type 0 where
  pub at : ℕ
  pub there : get_elem? events at ≡ some (done_of receipt)

-- or the operation is a posting, which was called
pub record WasPosted (script : ScriptModel) (events : List Event) (receipt : Receipt) : Type 0 where
  pub posting : is_act is_posting script receipt.op ≡ true
  pub code_is : receipt.code ≡ code.Ok
  pub size_is : receipt.size ≡ 0
  pub called : has_call receipt.op events ≡ true

-- a receipt holds in a history
abbrev pub HoldsIn : ScriptModel → List Event → Receipt → Type 0
HoldsIn script events receipt = HasCompleted events receipt ⊎ WasPosted script events receipt

-- the first completed before the second
pub record CompletesBefore (events : List Event) (first second : Receipt) : Type 0 where
  pub at : ℕ
  pub later : ℕ
  pub before : at < later
  pub there : get_elem? events at ≡ some (done_of first)
  pub then_there : get_elem? events later ≡ some (done_of second)

-- receipts of two asynchronous operations of one lane
pub record AreOfOneLane (script : ScriptModel) (one other : Receipt) : Type 0 where
  pub differ : one.op ≢ other.op
  pub asynchronous : is_act is_posting script one.op ≡ false
  pub other_too : is_act is_posting script other.op ≡ false
  pub lane : home_lane script one.op ≡ home_lane script other.op

-- Receipts hold in a history, whoever has them; and of two asynchronous operations of one lane the one
-- with the smaller place completed first
pub record ReceiptsHold (script : ScriptModel) (logs : LogsView) (events : List Event) : Type 0 where
  pub hold : (n : ℕ) (receipt : Receipt) → IsReceiptOf script (logs.lists n) receipt →
      HoldsIn script events receipt
  pub apart : (m n : ℕ) (one other : Receipt) → IsReceiptOf script (logs.lists m) one →
      IsReceiptOf script (logs.lists n) other → AreOfOneLane script one other →
      one.place ≢ other.place
  pub order : (m n : ℕ) (one other : Receipt) → IsReceiptOf script (logs.lists m) one →
      IsReceiptOf script (logs.lists n) other → AreOfOneLane script one other →
      one.place < other.place → CompletesBefore events one other

abbrev pub ReceiptsOfSessionsHold : Type 0
ReceiptsOfSessionsHold =
    (names : SessionNames) (logs : LogsView) (events : List Event) →
    IsWellFormed names.script → AreLogs names logs → IsMerging logs events →
    ReceiptsHold names.script logs events

module _ (script : ScriptModel) (lists : ℕ → List ClockStep) where
  -- where the rounds stood before the opener's step j
  abbrev pub stand_before : ℕ → Stand
  stand_before j = stand_of script (take j (lists (opener_seat script)))

  -- the opener's step j closes the last round
  pub record ClosesLast (j : ℕ) : Type 0 where
    pub shown : Event
    pub changes : Change
    pub found : Found
    pub drawn : StepAt lists (opener_seat script) j (Draw shown changes found)
    pub round : is_round_open script (stand_before j) ≡ true
    pub last : (stand_before j).closings + 1 ≡ length script.rounds

  -- behind its step h a list has a look at a cell that didn't hold a note of the operation
  pub record LooksInVain (n h op lane place : ℕ) : Type 0 where
    pub at : ℕ
    pub behind : h < at
    pub held : Option Note
    pub saw : StepAt lists n at (Look lane place held)
    pub other : holds_op op held ≡ false

  -- behind the closing of the last round, of which it knew, a list looked at each cell of the
  -- operation's lane, and none held its note
  pub record FoundNoneAtEnd (n op : ℕ) : Type 0 where
    pub closing : ℕ
    pub closes : ClosesLast closing
    pub joined : ℕ
    pub counts : List ℕ
    pub joins : StepAt lists n joined (Join counts)
    pub knows : closing < slice_index counts (opener_seat script)
    pub looks : (place : ℕ) → place < slice_index (cells_of script) (home_lane script op) →
        LooksInVain n joined op (home_lane script op) place

-- the operation didn't complete, and where it is a posting it wasn't called
pub record IsAbsent (script : ScriptModel) (events : List Event) (op : ℕ) : Type 0 where
  pub undone : (with_code : Code) (size at : ℕ) →
      get_elem? events at ≢ some (event.Done op with_code size)
  pub uncalled : is_act is_posting script op ≡ true → has_call op events ≡ false

abbrev pub UnfoundAreAbsent : Type 0
UnfoundAreAbsent =
    (names : SessionNames) (logs : LogsView) (events : List Event) →
    IsWellFormed names.script → AreLogs names logs → IsMerging logs events →
    (n op : ℕ) → has_cell names.script op ≡ true → FoundNoneAtEnd names.script logs.lists n op →
    IsAbsent names.script events op

-- The same at rest, however the session ended: what the opener didn't find then was never there
abbrev pub UnfoundAtRestAreAbsent : Type 0
UnfoundAtRestAreAbsent =
    (names : SessionNames) (logs : LogsView) (events : List Event) →
    IsWellFormed names.script → AreLogs names logs → IsMerging logs events →
    (since op : ℕ) → IsAtRest names.script logs.lists since → has_cell names.script op ≡ true →
    FoundNoneFrom names.script logs.lists since op → IsAbsent names.script events op
