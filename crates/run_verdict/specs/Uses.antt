-- The reads, or the writes, that are pending on streams: how each line changes them, and two tables of them.
use Rattle.std.specs.Prelude.{◌≡◌, ℕ, List, Bool, false, ◌==◌, if◌then◌else◌, Option, Some, None, nat_eq, codes}
use Rattle.std.specs.HashMap.{get}
use Rattle.std.specs.Option.{option_and_then}
use Rattle.std.specs.Str.{bytes_eq}
use Rattle.run_lines.specs.declared.line.Doing.{Doing}
use Rattle.run_lines.specs.declared.line.Doing.TheVariants as doing
use Rattle.run_lines.specs.declared.line.Line.{Line}
use Rattle.run_lines.specs.declared.word.Word.{Word}
use Rattle.run_lines.specs.declared.word.Word.TheVariants.{Other}
use Rattle.run_rules.specs.Calls.{Calling, call_of}
use Rattle.run_check.specs.After.{is_spent}
use Rattle.run_verdict.specs.declared.uses.Uses.{Uses}
use Rattle.run_verdict.specs.declared.uses.Way.{Way}
use Rattle.run_verdict.specs.declared.uses.Way.TheVariants as way

-- the word of a read or a write
abbrev pub letters_of : Way → List ℕ
letters_of way.Read = codes "read"
letters_of way.Write = codes "write"

abbrev pub is_by : Way → Word → Bool
is_by how (Other letters) = bytes_eq letters (letters_of how)
is_by how _ = false

-- the stream that a call by this word on this thing reads, or writes
abbrev pub stream_in : Way → Word → Option ℕ → Option ℕ
stream_in how word thing = if is_by how word then thing else None

-- the stream that an operation that waits reads, or writes
abbrev pub use_of : Way → List Line → ℕ → Option ℕ
use_of how past op = if is_spent past op then None else option_and_then
    (λ (call : Calling). stream_in how call.word call.thing) (call_of past op)

-- what a line makes of it
abbrev pub use_after : Way → Doing → ℕ → Option ℕ → Option ℕ
use_after how (doing.Call number word context strand thing) op before = if number == op then stream_in how word thing else before
use_after how (doing.Begin number code size) op before = if number == op then None else before
use_after how (doing.Drop number) op before = if number == op then None else before
use_after how _ op before = before

abbrev pub stream_at : Uses → ℕ → Option ℕ
stream_at kept op = get nat_eq kept.streams op

abbrev pub user_at : Uses → ℕ → Option ℕ
user_at kept stream = get nat_eq kept.users stream

-- both tables say the same, so each stream has one user
pub record ArePaired (kept : Uses) : Type 0 where
  pub found : (op stream : ℕ) → stream_at kept op ≡ Some stream → user_at kept stream ≡ Some op
  pub stands : (op stream : ℕ) → user_at kept stream ≡ Some op → stream_at kept op ≡ Some stream

-- an operation that a line calls isn't kept yet, and neither is a user of its stream
abbrev pub IsNewUse : Way → Uses → Doing → Type 0
IsNewUse how kept (doing.Call number word context strand thing) =
    (stream_at kept number ≡ None) × ((stream : ℕ) → stream_in how word thing ≡ Some stream → user_at kept stream ≡ None)
IsNewUse how kept _ = Unit {0}

-- the tables say what these lines say, of which the newest stands first
pub record AreUses (how : Way) (past : List Line) (kept : Uses) : Type 0 where
  pub paired : ArePaired kept
  pub uses : (op : ℕ) → stream_at kept op ≡ use_of how past op
