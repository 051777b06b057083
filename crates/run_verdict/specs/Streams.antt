-- What is pending on streams, where a run is asked for one operation of a kind at a time.
use Rattle.std.specs.Prelude.{ℕ, List, if◌then◌else◌, Option, Some, None}
use Rattle.run_lines.specs.declared.line.Line.{Line}
use Rattle.run_lines.specs.declared.word.Word.{Word}
use Rattle.run_verdict.specs.Uses.{AreUses, is_by, user_at}
use Rattle.run_verdict.specs.declared.streams.Streams.{Streams}
use Rattle.run_verdict.specs.declared.uses.Way.TheVariants as way

-- the operation that is kept as pending where a call by this word on this thing would be, too
abbrev pub pending_in : Streams → Word → Option ℕ → Option ℕ
pending_in kept word None = None
pending_in kept word (Some stream) =
    if is_by way.Read word then user_at kept.reads stream else (if is_by way.Write word then user_at kept.writes stream else None)

pub record AreStreams (past : List Line) (kept : Streams) : Type 0 where
  pub reads : AreUses way.Read past kept.reads
  pub writes : AreUses way.Write past kept.writes
