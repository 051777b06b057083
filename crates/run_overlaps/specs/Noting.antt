-- What is known of the lines that were followed.
use Rattle.std.specs.Prelude.{List, reverse}
use Rattle.run_lines.specs.declared.line.Line.{Line}
use Rattle.run_joins.specs.declared.note.Note.{Note}
use Rattle.run_joins.specs.Notes.{AreNotes}
use Rattle.run_overlaps.specs.declared.watch.Watch.{Watch}
use Rattle.run_overlaps.specs.Watching.{IsWatch}

-- these lines were followed, and these are their notes, the oldest first
pub record HasNoted (past : List Line) (watch : Watch) (notes : List Note) : Type 0 where
  pub watches : IsWatch past watch
  pub notes_are : AreNotes past (reverse notes)
