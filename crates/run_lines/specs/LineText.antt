-- A line while it is put together.
use Rattle.std.specs.Prelude.{ℕ, List, [], ◌∷◌, ◌++◌}
use Rattle.run_lines.specs.declared.line.Line.{Line}
use Rattle.run_lines.specs.Line.{doing_words}
use Rattle.std.specs.Fmt.{decimal}

-- a text, and words behind it with a space before each
abbrev pub with_words : List ℕ → List (List ℕ) → List ℕ
with_words text [] = text
with_words text (word ∷ words) = with_words (text ++ 32 ∷ word) words

abbrev pub with_all_words : Line → List ℕ
with_all_words line = with_words (decimal line.thread) (doing_words line.does)
