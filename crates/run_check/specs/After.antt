-- What a checker keeps behind a list of lines, of which the newest stands first.
use Rattle.std.specs.Prelude.{◌≡◌, ℕ, List, [], ◌∷◌, Bool, true, false, ◌||◌, if◌then◌else◌, length, Option, Some, None, Result, MatchResult, is_some, nat_eq}
use Rattle.std.specs.List.{list_any}
use Rattle.std.specs.Option.{option_eq, option_map, option_or}
use Rattle.run_lines.specs.declared.line.Doing.{Doing}
use Rattle.run_lines.specs.declared.line.Line.{Line}
use Rattle.run_lines.specs.declared.word.Word.{Word}
use Rattle.run_lines.specs.declared.word.Word.TheVariants as word
use Rattle.run_rules.specs.declared.frame.Frame.{Frame}
use Rattle.run_rules.specs.declared.level.Level.{Level}
use Rattle.run_rules.specs.declared.rule.Rule.{Rule}
use Rattle.run_rules.specs.declared.level.Strictness.TheVariants as strictness
pub use Rattle.run_rules.specs.Stacks.{first_of}
use Rattle.run_rules.specs.Stacks.{stack}
use Rattle.run_rules.specs.Calls.{Calling, Completion, call_of, done_of, is_begun, is_dropped, is_posting, strand_of}
use Rattle.run_rules.specs.Against.{is_executing}
use Rattle.run_rules.specs.Entries.{Entry, entry_by, placed_at}
use Rattle.run_rules.specs.Takings.{taken}
use Rattle.run_rules.specs.Starting.{is_on}
use Rattle.run_rules.specs.Breaks.{BreaksByDoing}
use Rattle.run_rules.specs.MayCome.{MayDo, last_call, is_marked}
use Rattle.run_rules.specs.Legal.{IsLegalSoFar}
use Rattle.run_check.specs.Called.{called_by}
use Rattle.run_check.specs.Entered.{entered_last, entered_of}
use Rattle.run_check.specs.LastCalls.{ends_frame, last_call_of}
use Rattle.run_check.specs.Marks.{has_mark}
use Rattle.run_check.specs.Queues.{spot_at, AreInOrder}
use Rattle.run_check.specs.Stacks.{innermost_of, execution_of}
use Rattle.run_check.specs.Strands.{holder_of}
use Rattle.run_check.specs.Takings.{AreCounted}
use Rattle.run_check.specs.Waiting.{waiting_at}
use Rattle.run_check.specs.declared.checker.Checker.{Checker}
use Rattle.run_check.specs.declared.stacks.Stacks.{Stacks}
use Rattle.run_check.specs.declared.waiting.CallKind.{CallKind}
use Rattle.run_check.specs.declared.waiting.CallKind.TheVariants as kind
use Rattle.run_check.specs.declared.waiting.Waiter.{Waiter}

-- the operation that was called last
abbrev pub called_last : List Line → Option ℕ
called_last [] = None
called_last (line ∷ past) = option_or (called_by line.does) (called_last past)

-- a frame that has ended
abbrev pub is_dead : List Line → Frame → Bool
is_dead past who = list_any (λ (line : Line). ends_frame line.does who) past

-- a strand, if none of these executions holds it
abbrev pub let_in : List Line → Option ℕ → List ℕ → Option ℕ
let_in past None around = None
let_in past (Some strand) around = if list_any (is_on past strand) around then None else Some strand

-- each of these executions is kept, with what is round it
abbrev pub AreChained : List Line → Stacks → List ℕ → Type 0
AreChained past kept [] = Unit {0}
AreChained past kept (op ∷ around) =
    (execution_of kept op ≡ Some
    (record { outer = first_of around; strand = let_in past (strand_of past op) around })) × AreChained past kept around

abbrev pub kind_of : Word → CallKind
kind_of word.Post = kind.Posting
kind_of word.Defer = kind.Posting
kind_of word.Dispatch = kind.Dispatch
kind_of (word.Other letters) = kind.Asynchronous

abbrev pub waiter_from : Option Completion → Calling → Waiter
waiter_from completion call = record {
  kind = kind_of call.word;
  context = call.context;
  strand = call.strand;
  thing = call.thing;
  caller = call.caller;
  place = call.place;
  entry = option_map (λ (e : Entry). e.place) (entry_by (is_posting call.word) call completion);
  outcome = option_map (λ (c : Completion). record { code = c.code; size = c.size }) completion;
}

-- the handler of an operation was called or destroyed
abbrev pub is_spent : List Line → ℕ → Bool
is_spent past op = is_begun past op || is_dropped past op

-- what is known of an operation that waits
abbrev pub waiter_of : List Line → ℕ → Option Waiter
waiter_of past op = if is_spent past op then None else option_map (waiter_from (done_of past op)) (call_of past op)

abbrev pub spot_from : Bool → Option ℕ → Option ℕ → Option (ℕ × ℕ)
spot_from true strand place = None
spot_from false None place = None
spot_from false (Some strand) None = None
spot_from false (Some strand) (Some place) = Some (strand, place)

-- the strand and the place at which an operation that waits is known to stand in its queue
abbrev pub spot_of : List Line → ℕ → Option (ℕ × ℕ)
spot_of past op = spot_from (is_spent past op) (strand_of past op) (placed_at past op)

-- no more is asked than of every run
abbrev pub loose : Level
loose = record { streams = false; strictness = strictness.Loose }

-- and what strands of Boost.Asio keep
abbrev pub plain : Level
plain = record { streams = false; strictness = strictness.Plain }

-- a checker has followed these lines, all of which could come
pub record IsAfter (past : List Line) (checker : Checker) : Type 0 where
  pub legal : IsLegalSoFar loose past
  pub lines : checker.lines ≡ length past
  pub called : checker.greatest ≡ called_last past
  pub marked : (mark : ℕ) → has_mark checker.marks mark ≡ is_marked past mark
  pub last_calls : (who : Frame) → last_call_of checker.last_calls who ≡ (if is_dead past who then None else last_call past who)
  pub entered : (thread : ℕ) → entered_of checker.entered thread ≡ entered_last past thread
  pub innermost : (thread : ℕ) → innermost_of checker.stacks thread ≡ first_of (stack past thread)
  pub executions : (thread : ℕ) → AreChained past checker.stacks (stack past thread)
  pub live : (op : ℕ) → is_some (execution_of checker.stacks op) ≡ is_executing past op
  pub held : (thread strand : ℕ) →
      list_any (is_on past strand) (stack past thread) ≡ option_eq nat_eq (holder_of checker.strands strand) (Some thread)
  pub waiting : (op : ℕ) → waiting_at checker.waiting op ≡ waiter_of past op
  pub ordered : AreInOrder checker.queues
  pub queued : (op : ℕ) → spot_at checker.queues op ≡ spot_of past op
  pub counted : AreCounted (taken past) checker.takings

-- an answer that says whether a thread may do this next, or which rule it would break
abbrev pub JudgesDoing : List Line → ℕ → Doing → Result (Unit {0}) Rule → Type 0
JudgesDoing past thread does answer =
    MatchResult answer (λ _. MayDo loose past thread does) (λ rule. BreaksByDoing loose past thread does rule)
