-- Which line may come next: for each kind of line the rules that it keeps.
use Rattle.std.specs.Prelude.{◌≡◌, ◌≢◌, ◌⊎◌, ◌<◌, ℕ, List, [], ◌∷◌, Bool, false, ◌==◌, if◌then◌else◌, Option, Some, None, IsSome, IsTrue, codes}
use Rattle.std.specs.List.{list_any}
use Rattle.run_lines.specs.declared.code.Code.{Code}
use Rattle.run_lines.specs.declared.line.Doing.{Doing}
use Rattle.run_lines.specs.declared.line.Doing.TheVariants as doing
use Rattle.run_lines.specs.declared.line.Line.{Line}
use Rattle.run_lines.specs.declared.word.Word.{Word}
use Rattle.run_lines.specs.declared.word.Word.TheVariants.{Post, Defer, Dispatch, Other}
use Rattle.run_rules.specs.declared.frame.Frame.{Frame}
use Rattle.run_rules.specs.declared.frame.Frame.TheVariants.{Execution}
use Rattle.run_rules.specs.declared.level.Level.{Level}
use Rattle.run_rules.specs.declared.taking.Resource.{Resource}
use Rattle.run_rules.specs.declared.taking.Resource.TheVariants.{Thing, Lock}
use Rattle.run_rules.specs.Stacks.{frame, same_frame}
use Rattle.run_rules.specs.Calls.{Waits, IsPosting, call_of, done_of, word_of, thing_of, last_call_after}
use Rattle.run_rules.specs.Takings.{has_taken, has_any, is_taken_by}
use Rattle.run_rules.specs.Starting.{IsFree, IsFirst, HasOutcome}
use Rattle.run_rules.specs.Strict.{IsStrict, MayDoStrictly}

-- the last call of a frame that isn't known to be back
abbrev pub last_call : List Line → Frame → Option ℕ
last_call [] who = None
last_call (line ∷ past) who =
    if same_frame (frame past line.thread) who then last_call_after line.does (last_call past who) else last_call past who

-- a mark of this number stands before
abbrev pub marks : Doing → ℕ → Bool
marks (doing.Mark number) mark = number == mark
marks _ mark = false

abbrev pub is_marked : List Line → ℕ → Bool
is_marked past mark = list_any (λ (line : Line). marks line.does mark) past

-- an operation that a stream has one of at a time: a read or a write
abbrev pub IsOfStream : Word → Type 0
IsOfStream (Other letters) = (letters ≡ codes "read") ⊎ (letters ≡ codes "write")
IsOfStream Post = ⊥
IsOfStream Defer = ⊥
IsOfStream Dispatch = ⊥

abbrev pub IsNew : List Line → ℕ → Type 0
IsNew past op = (earlier : ℕ) → IsSome (call_of past earlier) → earlier < op

abbrev pub IsSingle : Level → List Line → Word → Option ℕ → Type 0
IsSingle level past word thing = (stream op : ℕ) → IsTrue level.streams → IsOfStream word →
    thing ≡ Some stream → Waits past op → word_of past op ≡ Some word → thing_of past op ≡ Some stream → ⊥

abbrev pub IsUntouched : List Line → ℕ → Resource → Type 0
IsUntouched past thread resource = (other : ℕ) → other ≢ thread → has_taken past other resource ≡ false

abbrev pub IsTaken : List Line → ℕ → Resource → Type 0
IsTaken past thread resource = IsTrue (is_taken_by past thread (frame past thread) resource)

pub record MayCall (level : Level) (past : List Line) (op : ℕ) (word : Word) (thing : Option ℕ) : Type 0 where
  -- Overview, "Asynchronous Operations": each call initiates an operation of its own; here their numbers rise
  pub is_new : IsNew past op
  -- reference, async_read, async_write: the stream performs no other such operation until this one completes
  pub single : IsSingle level past word thing

pub record MayReturn (past : List Line) (thread op : ℕ) : Type 0 where
  -- reference, post: the function returns to its caller; so what returns is the latest call of this frame, once
  pub returns : last_call past (frame past thread) ≡ Some op

pub record MayComplete (past : List Line) (op : ℕ) : Type 0 where
  -- Overview, "Asynchronous Operations": a handler is called or destroyed once, and its operation completes before
  pub waiting : Waits past op
  -- reference, post, defer, dispatch: these submit the handler itself, and nothing has to complete
  pub asynchronous : IsPosting past op → ⊥
  -- Overview, "Asynchronous Operations": an operation completes once
  pub done_once : done_of past op ≡ None

pub record MayBegin (level : Level) (past : List Line) (thread op : ℕ) (code : Code) (size : ℕ) : Type 0 where
  -- Overview, "Asynchronous Operations": a handler is called at most once, and only after its initiating function was called
  pub waiting : Waits past op
  -- reference, post: the handler has no arguments; others are called with what their operation completed with
  pub outcome : HasOutcome past op code size
  -- reference, io_context::strand: no two handlers of a strand execute concurrently; strand::dispatch: the handler
  -- may execute inside the call where the caller is inside the strand
  pub free : IsFree past thread op
  -- reference, io_context::strand, "Order of handler invocation": what was submitted before, begins before
  pub first : IsFirst level past op

pub record MayEnd (past : List Line) (thread op : ℕ) : Type 0 where
  -- reference, io_context::run: it calls handlers as functions, one inside the other where it is called by one
  pub innermost : frame past thread ≡ Execution op
  -- a program's own discipline: a handler lets go of what it took, so nothing is held between handlers
  pub clean : has_any past (Execution op) ≡ false

pub record MayDrop (past : List Line) (op : ℕ) : Type 0 where
  -- reference, execution_context::~execution_context: handlers that weren't called are destroyed
  pub waiting : Waits past op

pub record MayClaim (past : List Line) (thread thing : ℕ) : Type 0 where
  -- Overview, "Threads and Boost.Asio": it is unsafe to make concurrent use of a single object
  pub untouched : IsUntouched past thread (Thing thing)

pub record MayRelease (past : List Line) (thread thing : ℕ) : Type 0 where
  -- a frame lets go of what it claimed itself
  pub claimed : IsTaken past thread (Thing thing)

pub record MayLock (past : List Line) (thread lock : ℕ) : Type 0 where
  -- C++, std::mutex: lock() returns when no other thread holds it
  pub unlocked : IsUntouched past thread (Lock lock)

pub record MayUnlock (past : List Line) (thread lock : ℕ) : Type 0 where
  -- C++, std::mutex: only who holds it may unlock it
  pub locked : IsTaken past thread (Lock lock)

pub record MayFollow (past : List Line) (mark : ℕ) : Type 0 where
  -- C++, std::future, std::thread::join: a wait is over after what it waits for
  pub marked : IsTrue (is_marked past mark)

-- whether a thread may do this next, as far as the rules of all runs have a say; what has no rule may always come
abbrev pub MayDo : Level → List Line → ℕ → Doing → Type 0
MayDo level past thread (doing.Call op word context strand thing) = MayCall level past op word thing
MayDo level past thread (doing.Back op) = MayReturn past thread op
MayDo level past thread (doing.Done op code size) = MayComplete past op
MayDo level past thread (doing.Begin op code size) = MayBegin level past thread op code size
MayDo level past thread (doing.End op) = MayEnd past thread op
MayDo level past thread (doing.Throw op) = MayEnd past thread op
MayDo level past thread (doing.Drop op) = MayDrop past op
MayDo level past thread (doing.Claim thing) = MayClaim past thread thing
MayDo level past thread (doing.Release thing) = MayRelease past thread thing
MayDo level past thread (doing.Lock lock) = MayLock past thread lock
MayDo level past thread (doing.Unlock lock) = MayUnlock past thread lock
MayDo level past thread (doing.After mark) = MayFollow past mark
MayDo level past thread (doing.Mark mark) = Unit {0}
MayDo level past thread (doing.Cancel thing) = Unit {0}
MayDo level past thread (doing.Work context) = Unit {0}
MayDo level past thread (doing.Stop context) = Unit {0}
MayDo level past thread (doing.Restart context) = Unit {0}

-- whether this line may come next
pub record MayCome (level : Level) (past : List Line) (line : Line) : Type 0 where
  pub rules : MayDo level past line.thread line.does
  pub strict : IsStrict level → MayDoStrictly past line.thread line.does
