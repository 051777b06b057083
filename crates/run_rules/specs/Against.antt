-- Which line stands against one that breaks a rule: what the rule looks at, and finds.
use Rattle.std.specs.Prelude.{◌≡◌, ◌≢◌, ◌≤◌, ◌⊎◌, ℕ, List, [], ◌∷◌, Bool, true, false, ◌==◌, ◌&&◌, ◌||◌, if◌then◌else◌, length, nat_le, Option, Some, None, IsSome, IsSomeAnd, IsTrue}
use Rattle.run_lines.specs.declared.line.Doing.{Doing}
use Rattle.run_lines.specs.declared.line.Doing.TheVariants as doing
use Rattle.run_lines.specs.declared.line.Line.{Line}
use Rattle.run_lines.specs.declared.word.Word.{Word}
use Rattle.run_rules.specs.declared.frame.Frame.{Frame}
use Rattle.run_rules.specs.declared.frame.Frame.TheVariants.{Execution, Outside}
use Rattle.run_rules.specs.declared.rule.Rule.{Rule}
use Rattle.run_rules.specs.declared.rule.Rule.TheVariants as rule
use Rattle.run_rules.specs.declared.taking.Resource.{Resource}
use Rattle.run_rules.specs.declared.taking.Resource.TheVariants.{Thing, Lock}
use Rattle.std.specs.Option.{option_and_then}
use Rattle.run_rules.specs.Stacks.{first_of, frame, stack}
use Rattle.run_rules.specs.Strict.{dropped_last, ready_on, stopped_since}
use Rattle.run_rules.specs.Calls.{Waits, begins, context_of, drops, is_posting, strand_of, thing_of, word_of}
use Rattle.run_rules.specs.Entries.{placed_at}
use Rattle.run_rules.specs.MayCome.{IsOfStream, last_call}
use Rattle.run_rules.specs.Starting.{GoesBefore}
use Rattle.run_rules.specs.Takings.{has_taken, is_taken_by, same_resource}

abbrev pub calls : Doing → ℕ → Bool
calls (doing.Call number word context strand thing) op = number == op
calls _ op = false

-- calls an operation by this number or a greater one
abbrev pub calls_from : Doing → ℕ → Bool
calls_from (doing.Call number word context strand thing) op = nat_le op number
calls_from _ op = false

abbrev pub completes : Doing → ℕ → Bool
completes (doing.Done number code size) op = number == op
completes _ op = false

-- calls a posting, or completes another operation
abbrev pub settles : Doing → ℕ → Bool
settles (doing.Call number word context strand thing) op = is_posting word && (number == op)
settles (doing.Done number code size) op = number == op
settles _ op = false

-- begins or ends the execution of its handler
abbrev pub tells_of : Doing → ℕ → Bool
tells_of (doing.Begin number code size) op = number == op
tells_of (doing.End number) op = number == op
tells_of (doing.Throw number) op = number == op
tells_of _ op = false

-- what a line claims or locks
abbrev pub taken_by : Doing → Option Resource
taken_by (doing.Claim thing) = Some (Thing thing)
taken_by (doing.Lock lock) = Some (Lock lock)
taken_by _ = None

-- the operation that a line calls, completes, begins, ends or drops
abbrev pub op_of : Doing → Option ℕ
op_of (doing.Call op word context strand thing) = Some op
op_of (doing.Back op) = Some op
op_of (doing.Done op code size) = Some op
op_of (doing.Begin op code size) = Some op
op_of (doing.End op) = Some op
op_of (doing.Throw op) = Some op
op_of (doing.Drop op) = Some op
op_of _ = None

abbrev pub executing_after : Doing → ℕ → Bool → Bool
executing_after (doing.Begin number code size) op before = if number == op then true else before
executing_after (doing.End number) op before = if number == op then false else before
executing_after (doing.Throw number) op before = if number == op then false else before
executing_after _ op before = before

-- the handler of an operation has begun, and hasn't ended
abbrev pub is_executing : List Line → ℕ → Bool
is_executing [] op = false
is_executing (line ∷ past) op = executing_after line.does op (is_executing past op)

-- an operation that waits reads, or writes, the stream that a call by this word on this thing would
pub record IsPending (past : List Line) (word : Word) (thing : Option ℕ) (op : ℕ) : Type 0 where
  pub used : IsOfStream word
  pub stream : IsSome thing
  pub waits : Waits past op
  pub same_word : word_of past op ≡ Some word
  pub same_thing : thing_of past op ≡ thing

-- a line calls what is pending where this one calls
abbrev pub CallsPending : List Line → Doing → Doing → Type 0
CallsPending past (doing.Call number word context strand thing) found =
    (op : ℕ) × IsPending past word thing op × IsTrue (calls found op)
CallsPending past _ found = ⊥

-- a line begins an execution that goes on, and that is on the strand of this operation
pub record BeginsOnStrand (past : List Line) (op : ℕ) (before : List Line) (found : Doing) : Type 0 where
  pub other : ℕ
  pub strand : ℕ
  pub begins : IsTrue (begins found other)
  pub goes_on : IsTrue (is_executing past other)
  pub there : strand_of before other ≡ Some strand
  pub same : strand_of past op ≡ Some strand

-- of what has to begin before this operation, that which stands in the queue longest is known to stand there since this place
pub record StandsLongest (past : List Line) (op place : ℕ) : Type 0 where
  pub first : ℕ
  pub strand : ℕ
  pub same : strand_of past op ≡ Some strand
  pub goes : GoesBefore past first op strand
  pub placed : placed_at past first ≡ Some place
  pub longest : (other since : ℕ) → GoesBefore past other op strand → placed_at past other ≡ Some since → place ≤ since

-- a line begins what executes here; or, where nothing does, tells of the execution of this operation
abbrev pub TellsOfExecution : Frame → ℕ → Doing → Type 0
TellsOfExecution (Execution innermost) op found = IsTrue (begins found innermost)
TellsOfExecution (Outside thread) op found = IsTrue (tells_of found op)

-- a line takes what the execution of this operation has taken and not given back
pub record TakesInside (past : List Line) (op : ℕ) (before : List Line) (found : Line) : Type 0 where
  pub inside : frame before found.thread ≡ Execution op
  pub kept : IsSomeAnd (taken_by found.does) (λ resource. IsTrue (is_taken_by past found.thread (Execution op) resource))

-- a line takes this on another thread, which has it still
pub record TakesIt (past : List Line) (thread : ℕ) (resource : Resource) (found : Line) : Type 0 where
  pub takes : IsSomeAnd (taken_by found.does) (λ other. IsTrue (same_resource other resource))
  pub elsewhere : found.thread ≢ thread
  pub kept : IsTrue (has_taken past found.thread resource)

-- a line takes what this one would
abbrev pub TakesElsewhere : List Line → ℕ → Doing → Line → Type 0
TakesElsewhere past thread does found = IsSomeAnd (taken_by does) (λ resource. TakesIt past thread resource found)

-- the operation that is the next one of this one's strand
abbrev pub next_of : List Line → ℕ → Option ℕ
next_of past op = option_and_then (λ strand. first_of (ready_on past strand).queue) (strand_of past op)

-- the line by which the context of this operation was stopped stands here
abbrev pub StopsContext : List Line → ℕ → ℕ → Type 0
StopsContext past op place =
    IsSomeAnd (context_of past op) (λ context. IsSomeAnd (stopped_since past context) (λ since. since ≡ place))

-- the same of the rules that speak of one operation
abbrev pub StandsAgainstOp : List Line → ℕ → ℕ → Rule → List Line → Line → Type 0
StandsAgainstOp past thread op rule.New before found = IsTrue (calls_from found.does op)
StandsAgainstOp past thread op rule.Returns before found =
    IsSomeAnd (last_call past (frame past thread)) (λ last. IsTrue (calls found.does last))
StandsAgainstOp past thread op rule.Waiting before found = IsTrue (begins found.does op || drops found.does op)
StandsAgainstOp past thread op rule.Asynchronous before found = IsTrue (calls found.does op)
StandsAgainstOp past thread op rule.DoneOnce before found = IsTrue (completes found.does op)
StandsAgainstOp past thread op rule.Outcome before found = IsTrue (settles found.does op)
StandsAgainstOp past thread op rule.Free before found = BeginsOnStrand past op before found.does
StandsAgainstOp past thread op rule.First before found = StandsLongest past op (length before)
StandsAgainstOp past thread op rule.Ready before found = IsTrue (calls found.does op)
StandsAgainstOp past thread op rule.Order before found =
    IsSomeAnd (next_of past op) (λ next. IsTrue (settles found.does next))
StandsAgainstOp past thread op rule.Stopped before found = StopsContext past op (length before)
StandsAgainstOp past thread op rule.Nested before found =
    IsSomeAnd (first_of (stack past thread)) (λ innermost. IsTrue (begins found.does innermost))
StandsAgainstOp past thread op rule.Innermost before found = TellsOfExecution (frame past thread) op found.does
StandsAgainstOp past thread op rule.Clean before found = TakesInside past op before found
StandsAgainstOp past thread op _ before found = ⊥

-- a line begins an execution that goes on where something would be dropped
abbrev pub IsUnderWay : List Line → Doing → Doing → Type 0
IsUnderWay past (doing.Drop op) found = (other : ℕ) × IsTrue (begins found other) × IsTrue (is_executing past other)
IsUnderWay past _ found = ⊥

-- or it dropped what was dropped last
abbrev pub StandsAtFinish : List Line → Doing → Doing → Type 0
StandsAtFinish past does found =
    IsUnderWay past does found ⊎ IsSomeAnd (dropped_last past) (λ last. IsTrue (drops found last))

-- `line`, behind the lines `past`, breaks a rule; of the lines before it, `found`, behind the lines `before`, stands against it
abbrev pub StandsAgainst : List Line → Line → Rule → List Line → Line → Type 0
StandsAgainst past line rule.Single before found = CallsPending past line.does found.does
StandsAgainst past line rule.Untouched before found = TakesElsewhere past line.thread line.does found
StandsAgainst past line rule.Unlocked before found = TakesElsewhere past line.thread line.does found
StandsAgainst past line rule.Finishing before found = StandsAtFinish past line.does found.does
StandsAgainst past line broken before found =
    IsSomeAnd (op_of line.does) (λ op. StandsAgainstOp past line.thread op broken before found)
