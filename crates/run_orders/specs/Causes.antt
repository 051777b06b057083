-- What has to come before a line in each order of a run.
use Rattle.std.specs.Prelude.{◌≡◌, ◌⊎◌, ◌<◌, ℕ, List, [], ◌∷◌, ◌&&◌, ◌||◌, length, Option, Some, None, IsTrue}
use Rattle.run_lines.specs.declared.code.Code.TheVariants as code
use Rattle.run_lines.specs.declared.line.Doing.{Doing}
use Rattle.run_lines.specs.declared.line.Doing.TheVariants as doing
use Rattle.run_rules.specs.declared.frame.Frame.TheVariants.{Execution}
use Rattle.run_rules.specs.Against.{calls, completes}
use Rattle.run_rules.specs.Calls.{Calling, begins, call_of}
use Rattle.run_orders.specs.Trees.{Spot, around, tree}

-- the operation that a line completes, begins or drops
abbrev pub takes_up : Doing → Option ℕ
takes_up (doing.Done op code size) = Some op
takes_up (doing.Begin op code size) = Some op
takes_up (doing.Drop op) = Some op
takes_up _ = None

-- the operation is called before it completes, begins or is dropped, and it completes before it begins (Overview, "Asynchronous
-- Operations")
abbrev pub Enables : Doing → Doing → Type 0
Enables first later =
    (op : ℕ) × (takes_up later ≡ Some op) × IsTrue (calls first op || (completes first op && begins later op))

-- what is pending is cancelled before its handler begins as aborted (reference, cancel)
pub record Aborts (first later : Spot) : Type 0 where
  pub op : ℕ
  pub size : ℕ
  pub thing : ℕ
  pub call : Calling
  pub cancels : first.line.does ≡ doing.Cancel thing
  pub begun : later.line.does ≡ doing.Begin op code.Aborted size
  pub called : call_of later.past op ≡ Some call
  pub same : call.thing ≡ Some thing
  pub pending : call.place < length first.past

-- a point is passed before what waits for it goes on
abbrev pub Wakes : Doing → Doing → Type 0
Wakes first later = (mark : ℕ) × (first ≡ doing.Mark mark) × (later ≡ doing.After mark)

-- what a thread does outside comes before the executions that it then begins (reference, io_context::run)
pub record Leads (apart : List ℕ) (first later : Spot) : Type 0 where
  pub op : ℕ
  pub same : first.line.thread ≡ later.line.thread
  pub outside : around first ≡ []
  pub begun : IsTrue (begins later.line.does op)
  pub alone : tree apart later ≡ Execution op

-- an execution
abbrev pub ends : Doing → Option ℕ
ends (doing.End op) = Some op
ends (doing.Throw op) = Some op
ends _ = None

-- the executions of a thread end before what it then does outside
pub record Leaves (first later : Spot) : Type 0 where
  pub op : ℕ
  pub same : first.line.thread ≡ later.line.thread
  pub ended : ends first.line.does ≡ Some op
  pub outermost : around first ≡ op ∷ []
  pub outside : around later ≡ []

-- an earlier line of a run stands before a later one in each order: both are of one tree, or for one of these reasons
pub record IsCause (apart : List ℕ) (first later : Spot) : Type 0 where
  pub earlier : length first.past < length later.past
  pub reason : (tree apart first ≡ tree apart later) ⊎ (Enables first.line.does later.line.does ⊎ (Aborts first later
      ⊎ (Wakes first.line.does later.line.does ⊎ (Leads apart first later ⊎ Leaves first later))))
