-- Which lines of a run come before which in each of its orders, whatever stands alone there.
use Rattle.std.specs.Prelude.{◌≡◌, ◌⊎◌, ◌<◌, ◌==◌, ◌&&◌, ℕ, List, [], ◌∷◌, Bool, false, length, Option, Some, None, IsTrue}
use Rattle.run_lines.specs.declared.line.Doing.{Doing}
use Rattle.run_lines.specs.declared.line.Doing.TheVariants as doing
use Rattle.run_lines.specs.declared.line.Line.{Line}
use Rattle.run_rules.specs.declared.frame.Frame.TheVariants.{Execution}
use Rattle.run_rules.specs.Calls.{begins, is_posting, strand_of}
use Rattle.run_rules.specs.Starting.{Holds}
use Rattle.run_orders.specs.Causes.{Aborts, Enables, Leaves, Wakes, ends}
use Rattle.run_orders.specs.Trees.{Spot, around, spot_at, writer}

-- the operation that a line begins
abbrev pub begun_by : Doing → Option ℕ
begun_by (doing.Begin op code size) = Some op
begun_by _ = None

-- two lines of one frame, of which neither begins an execution inside it
pub record IsOneAfter (first later : Spot) : Type 0 where
  pub same : writer first ≡ writer later
  pub plain : begun_by first.line.does ≡ None
  pub plain_too : begun_by later.line.does ≡ None

-- an execution begins before its own lines
pub record IsBeginOf (first later : Spot) : Type 0 where
  pub op : ℕ
  pub begun : IsTrue (begins first.line.does op)
  pub writes : writer later ≡ Execution op
  pub plain : begun_by later.line.does ≡ None

-- what a thread does outside comes before the executions that it then begins, inside no other
pub record LeadsTo (first later : Spot) : Type 0 where
  pub op : ℕ
  pub same : first.line.thread ≡ later.line.thread
  pub outside : around first ≡ []
  pub begun : IsTrue (begins later.line.does op)
  pub alone : around later ≡ op ∷ []

-- an earlier line of a run is a cause of a later one, whatever stands alone
pub record IsSureCause (first later : Spot) : Type 0 where
  pub earlier : length first.past < length later.past
  pub reason : IsOneAfter first later ⊎ (IsBeginOf first later ⊎ (Enables first.line.does later.line.does
      ⊎ (Aborts first later ⊎ (Wakes first.line.does later.line.does ⊎ (LeadsTo first later ⊎ Leaves first later)))))

-- an execution of a strand ends by the first line; by the later one an operation of that strand begins, on a thread that doesn't hold
-- it (reference, io_context::strand: no two of its handlers execute concurrently)
pub record IsTurn (first later : Spot) (op next : ℕ) : Type 0 where
  pub strand : ℕ
  pub ended : ends first.line.does ≡ Some op
  pub on : strand_of first.past op ≡ Some strand
  pub begun : IsTrue (begins later.line.does next)
  pub on_too : strand_of later.past next ≡ Some strand
  pub unheld : ¬ (Holds later.past later.line.thread strand)

abbrev pub posts : Doing → ℕ → Bool
posts (doing.Call number word context strand thing) op = is_posting word && (number == op)
posts _ op = false

-- an operation is posted before a line
pub record IsPosted (posted later : Spot) (op : ℕ) : Type 0 where
  pub posts_it : IsTrue (posts posted.line.does op)
  pub earlier : length posted.past < length later.past

-- the frame that posts an operation has come back at this later line of it, so from there on the operation stands in its queue
-- (reference, post: the function returns to its caller)
pub record IsQueued (posted back : Spot) (op : ℕ) : Type 0 where
  pub before : IsPosted posted back op
  pub one : IsOneAfter posted back

-- the line at one place stands before the line at another in each order
pub data IsForced (run : List Line) : ℕ → ℕ → Type 0 where
  -- it is a cause of it, or of what is forced before that
  at_once : {first later : ℕ} → (one other : Spot) → spot_at run first ≡ Some one → spot_at run later ≡ Some other →
      IsSureCause one other → IsForced run first later
  through : {first later : ℕ} → (middle : ℕ) → IsForced run first middle → IsForced run middle later → IsForced run first later
  -- the execution that it ends has begun by force before another one of its strand begins
  in_turn : {first later : ℕ} → (begin op next : ℕ) → (one other start : Spot) → spot_at run first ≡ Some one →
      spot_at run later ≡ Some other → spot_at run begin ≡ Some start → IsTurn one other op next → IsTrue (begins start.line.does op) →
      IsForced run begin later → IsForced run first later
  -- its operation stands in the queue by force when the other one is posted (reference, io_context::strand, "Order of handler
  -- invocation")
  in_queue : {first later : ℕ} → (post behind entry op next : ℕ) → (one other posted back entered : Spot) →
      spot_at run first ≡ Some one → spot_at run later ≡ Some other → spot_at run post ≡ Some posted → spot_at run behind ≡ Some back →
      spot_at run entry ≡ Some entered → IsTurn one other op next → IsQueued posted back op → IsPosted entered other next →
      IsForced run behind entry → IsForced run first later
  -- or comes to stand there as the other one is posted, by the same frame
  in_line : {first later : ℕ} → (post entry op next : ℕ) → (one other posted entered : Spot) → spot_at run first ≡ Some one →
      spot_at run later ≡ Some other → spot_at run post ≡ Some posted → spot_at run entry ≡ Some entered → IsTurn one other op next →
      IsQueued posted entered op → IsPosted entered other next → IsForced run first later
