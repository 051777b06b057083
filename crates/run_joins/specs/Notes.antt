-- What is known of the lines of a run.
use Rattle.std.specs.Prelude.{◌≡◌, ℕ, List, [], ◌∷◌, true, false}
use Rattle.run_lines.specs.declared.line.Doing.{Doing}
use Rattle.run_lines.specs.declared.line.Doing.TheVariants as doing
use Rattle.run_lines.specs.declared.line.Line.{Line}
use Rattle.run_rules.specs.declared.frame.Frame.{Frame}
use Rattle.run_rules.specs.declared.taking.Resource.TheVariants.{Thing}
use Rattle.run_rules.specs.Stacks.{frame}
use Rattle.run_rules.specs.Takings.{is_taken_by}
use Rattle.run_joins.specs.declared.note.Note.{Note}

-- who releases a thing has it no more behind these lines
abbrev pub IsGone : List Line → ℕ → Frame → Doing → Type 0
IsGone behind by who (doing.Release thing) = is_taken_by behind by who (Thing thing) ≡ false
IsGone behind by who _ = Unit {0}

-- this is known of a line
pub record IsNote (line : Line) (past : List Line) (note : Note) : Type 0 where
  pub same : note.line ≡ line
  pub writes : note.frame ≡ frame past line.thread
  pub gone : note.gone ≡ true → IsGone (line ∷ past) line.thread (frame past line.thread) line.does

-- these are the notes of these lines, the newest first
abbrev pub AreNotes : List Line → List Note → Type 0
AreNotes [] [] = Unit {0}
AreNotes [] (note ∷ before) = ⊥
AreNotes (line ∷ past) [] = ⊥
AreNotes (line ∷ past) (note ∷ before) = AreNotes past before × IsNote line past note
