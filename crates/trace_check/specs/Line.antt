-- The lines that a session writes.
use Rattle.std.specs.Prelude.{ℕ, List, ◌++◌, codes}
use Rattle.history_book.specs.Trace.{line_end}
use Rattle.text_io.specs.Note.{field}
use Rattle.trace_check.specs.declared.verdict.Verdict.{Verdict}
use Rattle.trace_check.specs.declared.verdict.Verdict.TheVariants as verdict

-- a line of words and a number behind them
abbrev pub numbered_line : List ℕ → ℕ → List ℕ
numbered_line words number = field words number ++ line_end

-- the line of a verdict on a trace with so many lines
abbrev pub verdict_line : Verdict → ℕ → List ℕ
verdict_line verdict.Legal lines = codes "legal" ++ line_end
verdict_line (verdict.Illegal number) lines = numbered_line (codes "illegal at line ") number
verdict_line verdict.Incomplete lines = numbered_line (codes "incomplete after line ") lines
