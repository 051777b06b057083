-- What is written of a run.
use Rattle.std.specs.Prelude.{◌==◌, ℕ, List, [], ◌∷◌, ◌++◌, Option, codes, if◌then◌else◌}
use Rattle.asio_types.specs.Sink.{Extends}
use Rattle.run_lines.specs.BadLine.{wants_text}
use Rattle.run_lines.specs.declared.bad_line.BadLine.{BadLine}
use Rattle.run_lines.specs.declared.line.Line.{Line}
use Rattle.run_lines.specs.Line.{line_text}
use Rattle.run_rules.specs.declared.rule.Rule.{Rule}
use Rattle.run_rules.specs.declared.rule.Rule.TheVariants as rule
use Rattle.run_verdict.specs.Naming.{Naming, line_names}
use Rattle.run_verdict.specs.Numbered.{numbered}
use Rattle.run_verdict.specs.declared.against.Against.{Against}
use Rattle.run_verdict.specs.declared.ending.Ending.{Ending}
use Rattle.run_verdict.specs.declared.ending.Ending.TheVariants as ending
use Rattle.run_verdict.specs.declared.ending.Owed.{Owed}

abbrev pub name_of : Rule → List ℕ
name_of rule.New = codes "New"
name_of rule.Single = codes "Single"
name_of rule.Returns = codes "Returns"
name_of rule.Waiting = codes "Waiting"
name_of rule.Asynchronous = codes "Asynchronous"
name_of rule.DoneOnce = codes "DoneOnce"
name_of rule.Outcome = codes "Outcome"
name_of rule.Free = codes "Free"
name_of rule.First = codes "First"
name_of rule.Ready = codes "Ready"
name_of rule.Order = codes "Order"
name_of rule.Stopped = codes "Stopped"
name_of rule.Nested = codes "Nested"
name_of rule.Innermost = codes "Innermost"
name_of rule.Clean = codes "Clean"
name_of rule.Untouched = codes "Untouched"
name_of rule.Unlocked = codes "Unlocked"
name_of rule.Claimed = codes "Claimed"
name_of rule.Locked = codes "Locked"
name_of rule.Marked = codes "Marked"
name_of rule.Finishing = codes "Finishing"

-- the number of a line that is judged, the line, and the rule that it breaks; then words on what that rule wants
abbrev pub illegal_text : ℕ → Rule → Line → List ℕ → List ℕ
illegal_text at broken line words =
    (((((numbered (codes "illegal at line ") at (codes ": ") ++ line_text line) ++ (10 ∷ codes "rule: ")) ++ name_of broken)
    ++ (10 ∷ codes "wanted: ")) ++ words) ++ (10 ∷ [])

-- a line that is none: its number, that of its first wrong word, and what could stand there
abbrev pub bad_text : ℕ → BadLine → List ℕ
bad_text at bad =
    ((numbered (codes "bad run at line ") at (codes ": ") ++ numbered (codes "word ") bad.word
    (codes ": expected ")) ++ wants_text bad.wants)
    ++ (10 ∷ [])

-- with the names of what the line speaks of
abbrev pub against_text : Naming → Against → List ℕ
against_text names against =
    ((numbered (codes "against: line ") against.at (codes ": ") ++ line_text against.line) ++ line_names names against.line)
    ++ (10 ∷ [])

-- a line on one kind of what is under way, if there is any
abbrev pub owed_part : ℕ → List ℕ → List ℕ
owed_part number kind = if number == 0 then [] else numbered (codes "owed: ") number kind

abbrev pub owed_text : Owed → List ℕ
owed_text owed =
    (owed_part owed.waiting (codes " operations that wait" ++ 10 ∷ [])
    ++ owed_part owed.executing (codes " threads that execute handlers" ++ 10 ∷ []))
    ++ owed_part owed.taken (codes " claims and locks" ++ 10 ∷ [])

-- what a sink is given by an ending; of a fault of reading or of memory nothing is written
abbrev pub IsWritten : Ending → Option (List ℕ) → Option (List ℕ) → Type 0
IsWritten ending.Legal before after = Extends before (codes "legal" ++ 10 ∷ []) after
IsWritten (ending.SoFar lines owed) before after =
    Extends before (numbered (codes "legal so far, ") lines (codes " lines" ++ 10 ∷ []) ++ owed_text owed) after
IsWritten (ending.Illegal at broken line) before after =
    (words : List ℕ) × Extends before (illegal_text at broken line words) after
IsWritten (ending.Bad at bad) before after = Extends before (bad_text at bad) after
IsWritten ending.NoHeader before after = Extends before (codes "bad run at line 1: expected run 1" ++ 10 ∷ []) after
IsWritten (ending.NoLineFeed at) before after =
    (words : List ℕ) × Extends before (numbered (codes "bad run at line ") at words) after
IsWritten (ending.TooLong at) before after =
    (words : List ℕ) × Extends before (numbered (codes "bad run at line ") at words) after
IsWritten (ending.ReadFault at) before after = Extends before [] after
IsWritten (ending.NoRoom at) before after = Extends before [] after
