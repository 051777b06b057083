-- What is kept of a run up to a line.
use Rattle.std.specs.Prelude.{◌≡◌, ℕ, List, true, Some}
use Rattle.run_lines.specs.declared.line.Line.{Line}
use Rattle.run_joins.specs.Reaching.{IsUpTo}
use Rattle.run_forced.specs.declared.past.Past.{Past}
use Rattle.run_forced.specs.declared.sources.Called.{Called}
use Rattle.run_forced.specs.declared.turns.Ended.{Ended}
use Rattle.run_forced.specs.Known.{Knows}
use Rattle.run_forced.specs.Sources.{AreSources, call_at}
use Rattle.run_forced.specs.Turns.{HaveEnded}

-- so many lines were followed
pub record HasFollowed (run : List Line) (lines : ℕ) (past : Past) : Type 0 where
  pub known : Knows run lines past.known
  pub sources : AreSources run lines past.sources
  pub ended : HaveEnded run past.turns

-- an operation is posted where an execution stands in the queue by force, or comes to stand there
pub record StandsBefore (run : List Line) (past : Past) (op : ℕ) (ended : Ended) : Type 0 where
  pub called : Called
  pub called_is : call_at past.sources op ≡ Some called
  pub posting : called.posting ≡ true
  pub behind : ℕ
  pub behind_is : ended.behind ≡ Some behind
  pub upto : IsUpTo run behind called.place
