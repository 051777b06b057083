-- What initiates an operation, as text.
use Rattle.std.specs.Prelude.{List, ℕ, Bool, false, true, codes}
use Rattle.run_lines.specs.Letters.{IsLetters, IsOtherWord}
use Rattle.run_lines.specs.declared.word.Word.{Word}
use Rattle.run_lines.specs.declared.word.Word.TheVariants as word

abbrev pub word_text : Word → List ℕ
word_text word.Post = codes "post"
word_text word.Defer = codes "defer"
word_text word.Dispatch = codes "dispatch"
word_text (word.Other letters) = letters

-- another word is none of the postings
abbrev pub IsWord : Word → Type 0
IsWord word.Post = Unit {0}
IsWord word.Defer = Unit {0}
IsWord word.Dispatch = Unit {0}
IsWord (word.Other letters) = IsLetters letters × IsOtherWord letters

-- a posting submits a handler and nothing else
abbrev pub is_posting : Word → Bool
is_posting (word.Other letters) = false
is_posting posting = true
