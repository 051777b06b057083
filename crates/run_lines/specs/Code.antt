-- How an operation completed, as text.
use Rattle.std.specs.Prelude.{List, ℕ, codes}
use Rattle.run_lines.specs.Letters.{IsLetters, IsOtherCode}
use Rattle.run_lines.specs.declared.code.Code.{Code}
use Rattle.run_lines.specs.declared.code.Code.TheVariants as code

abbrev pub code_text : Code → List ℕ
code_text code.Ok = codes "ok"
code_text code.Aborted = codes "aborted"
code_text (code.Other letters) = letters

-- another code is none of the two
abbrev pub IsCode : Code → Type 0
IsCode code.Ok = Unit {0}
IsCode code.Aborted = Unit {0}
IsCode (code.Other letters) = IsLetters letters × IsOtherCode letters
