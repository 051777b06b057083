-- What came of reading a run, told of its whole text.
use Rattle.std.specs.Prelude.{◌≡◌, ◌⊎◌, ◌<◌, ◌+◌, ◌^◌, ℕ, List, [], ◌∷◌, ◌++◌, length, reverse, Option, Some, None}
use Rattle.asio_types.specs.Faults.{Rose}
use Rattle.run_lines.specs.declared.line.Line.{Line}
use Rattle.run_lines.specs.BadLine.{IsBadLine}
use Rattle.run_lines.specs.Entry.{IsEntry, IsEntryText, PlainEntry, entry_text, line}
use Rattle.run_lines.specs.Line.{IsLine, line_text}
use Rattle.run_lines.specs.Run.{AreEntries, IsRunText, header, lines_of, run_text}
use Rattle.run_lines.specs.Words.{words_of}
use Rattle.run_reader.specs.Buffer.{HasNoLineFeed}
use Rattle.run_reader.specs.Reader.{BeginsTooLong, HasNoLastLineFeed, IsTooLong, IsWhollyRead, TakesLine}
use Rattle.run_reader.specs.declared.fault.ReadFault.{ReadFault}
use Rattle.run_reader.specs.declared.fault.ReadFault.TheVariants as fault
use Rattle.run_rules.specs.declared.level.Level.{Level}
use Rattle.run_rules.specs.Breaks.{BreaksRule}
use Rattle.run_rules.specs.Legal.{IsLegalRun, IsLegalSoFar, IsWhole}
use Rattle.run_rules.specs.MayCome.{MayCome}
use Rattle.run_verdict.specs.declared.ending.Ending.{Ending}
use Rattle.run_verdict.specs.declared.ending.Ending.TheVariants as ending
use Rattle.run_verdict.specs.declared.judge.Judge.{Judge}
use Rattle.run_verdict.specs.declared.run.Next.{Next}
use Rattle.run_verdict.specs.declared.run.Next.TheVariants as next
use Rattle.run_verdict.specs.Judges.{HasJudged}

-- what happened in these entries, the newest first
abbrev pub past_of : List PlainEntry → List Line
past_of entries = reverse (lines_of entries)

-- a text begins with these entries, which are legal so far; the rest stands behind them, from line `at` on
pub record BeginsWith (level : Level) (text : List ℕ) (entries : List PlainEntry) (rest : List ℕ) (at : ℕ) : Type 0 where
  pub readable : AreEntries entries
  pub parted : text ≡ run_text entries ++ rest
  pub legal : IsLegalSoFar level (past_of entries)
  pub number : at ≡ length entries + 2

-- what an ending says of the whole text
abbrev pub SaysOf : Level → List ℕ → Ending → Type 0
SaysOf level text ending.Legal = (entries : List PlainEntry) × IsRunText text entries × IsLegalRun level (lines_of entries)
SaysOf level text (ending.SoFar lines owed) = (entries : List PlainEntry) × BeginsWith level text entries [] (lines + 1)
    × ¬ (IsWhole (past_of entries))
SaysOf level text (ending.Illegal at rule happened) =
    (entries : List PlainEntry) × (rest : List ℕ) × BeginsWith level text entries (line_text happened ++ 10 ∷ rest) at
    × BreaksRule level (past_of entries) happened rule
SaysOf level text (ending.Bad at bad) =
    (entries : List PlainEntry) × (bytes : List ℕ) × (rest : List ℕ) × BeginsWith level text entries (bytes ++ 10 ∷ rest) at
    × HasNoLineFeed bytes
    × IsBadLine (words_of bytes) bad
SaysOf level text ending.NoHeader =
    (text ≡ []) ⊎ ((bytes : List ℕ) × (rest : List ℕ) × (text ≡ bytes ++ 10 ∷ rest) × HasNoLineFeed bytes × (bytes ≡ header → ⊥))
SaysOf level text (ending.NoLineFeed at) =
    ((at ≡ 1) × HasNoLineFeed text)
    ⊎ ((entries : List PlainEntry) × (rest : List ℕ) × BeginsWith level text entries rest at × (0 < length rest)
    × HasNoLineFeed rest)
SaysOf level text (ending.TooLong at) =
    ((at ≡ 1) × IsTooLong text)
    ⊎ ((entries : List PlainEntry) × (rest : List ℕ) × BeginsWith level text entries rest at × IsTooLong rest)
SaysOf level text (ending.ReadFault at) =
    (at ≡ 1) ⊎ ((entries : List PlainEntry) × (rest : List ℕ) × BeginsWith level text entries rest at)
SaysOf level text (ending.NoRoom at) =
    (entries : List PlainEntry) × (rest : List ℕ) × BeginsWith level text entries rest at
    × ((at + 1 ≡ 2 ^ 64) ⊎ ((happened : Line) × (after : List ℕ) × (rest ≡ line_text happened ++ 10 ∷ after)
    × MayCome level (past_of entries) happened))

-- the same, where the source tells its text
abbrev pub Says : Level → Option (List ℕ) → Ending → Type 0
Says level None ending = Unit {0}
Says level (Some text) ending = SaysOf level text ending

-- where a line breaks a rule, the judge has followed the lines before it, and no more
abbrev pub StopsAt : Level → List ℕ → Ending → Judge → Type 0
StopsAt level text (ending.Illegal at rule happened) judge =
    (entries : List PlainEntry) × (rest : List ℕ) × BeginsWith level text entries (line_text happened ++ 10 ∷ rest) at
    × BreaksRule level (past_of entries) happened rule × HasJudged level (past_of entries) judge
StopsAt level text _ judge = Unit {0}

-- the same, where the source tells its text
abbrev pub Stops : Level → Option (List ℕ) → Ending → Judge → Type 0
Stops level None ending judge = Unit {0}
Stops level (Some text) ending judge = StopsAt level text ending judge

-- both
abbrev pub EndsWith : Level → List ℕ → Ending → Judge → Type 0
EndsWith level text ending judge = SaysOf level text ending × StopsAt level text ending judge

-- reading failed where the source's count of faults rose, and nowhere else
abbrev pub CountsFaultsOf : Ending → ℕ → ℕ → Type 0
CountsFaultsOf (ending.ReadFault at) old new = Rose old new
CountsFaultsOf _ old new = new ≡ old

-- the same of a line
abbrev pub CountsNext : Next → ℕ → ℕ → Type 0
CountsNext (next.Fault fault.Failed) old new = Rose old new
CountsNext _ old new = new ≡ old

-- what stands next: the line that was taken off the text, and what it says
abbrev pub NextGives : Next → List ℕ → Option (List ℕ) → List ℕ → Option (List ℕ) → Type 0
NextGives (next.Line happened) held left held_after left_after =
    IsLine happened × TakesLine held left (line_text happened) held_after left_after
NextGives next.Name held left held_after left_after =
    (entry : PlainEntry) × IsEntry entry × (lines_of (entry ∷ []) ≡ [])
    × TakesLine held left (entry_text entry) held_after left_after
NextGives next.End held left held_after left_after = IsWhollyRead held left
NextGives (next.Bad bad) held left held_after left_after =
    (bytes : List ℕ) × TakesLine held left bytes held_after left_after × HasNoLineFeed bytes × IsBadLine (words_of bytes) bad
NextGives (next.Fault fault.NoLineFeed) held left held_after left_after = HasNoLastLineFeed held left
NextGives (next.Fault fault.TooLong) held left held_after left_after = BeginsTooLong held left
NextGives (next.Fault fault.Failed) held left held_after left_after = Unit {0}

-- what bytes say that are a line without its line feed
abbrev pub IsSaidBy : List ℕ → Next → Type 0
IsSaidBy bytes (next.Line happened) = IsEntryText bytes (line happened)
IsSaidBy bytes next.Name = (entry : PlainEntry) × IsEntryText bytes entry × (lines_of (entry ∷ []) ≡ [])
IsSaidBy bytes (next.Bad bad) = IsBadLine (words_of bytes) bad
IsSaidBy bytes next.End = ⊥
IsSaidBy bytes (next.Fault why) = ⊥

-- the first lines of a text were read and followed, and this is left of it
abbrev pub IsReading : Level → List ℕ → List ℕ → Option (List ℕ) → Judge → ℕ → Type 0
IsReading level text held None judge at = ⊥
IsReading level text held (Some left) judge at =
    (entries : List PlainEntry) × BeginsWith level text entries (held ++ left) at × HasJudged level (past_of entries) judge

-- what a line comes to that ends a run
abbrev pub EndsLine : Level → List Line → Line → ℕ → Judge → Ending → Type 0
EndsLine level past happened at judge (ending.Illegal where_at rule named) =
    (where_at ≡ at) × (named ≡ happened) × BreaksRule level past happened rule × HasJudged level past judge
EndsLine level past happened at judge (ending.NoRoom where_at) = (where_at ≡ at) × MayCome level past happened
EndsLine level past happened at judge _ = ⊥

-- what the end of the text comes to
abbrev pub EndsRun : Level → List Line → ℕ → Ending → Type 0
EndsRun level past lines ending.Legal = IsWhole past
EndsRun level past lines (ending.SoFar number owed) = (number ≡ lines) × ¬ (IsWhole past)
EndsRun level past lines _ = ⊥

-- the ending where there is no next line
abbrev pub ended_by : ReadFault → ℕ → Ending
ended_by fault.Failed at = ending.ReadFault at
ended_by fault.NoLineFeed at = ending.NoLineFeed at
ended_by fault.TooLong at = ending.TooLong at

-- the header was read, where the source tells its text
abbrev pub IsOpened : List ℕ → List ℕ → Option (List ℕ) → Type 0
IsOpened text held None = ⊥
IsOpened text held (Some left) = text ≡ header ++ 10 ∷ (held ++ left)
