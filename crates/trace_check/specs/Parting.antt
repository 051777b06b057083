-- How an input parts into a script and a trace.
use Rattle.std.specs.Prelude.{◌≡◌, ◌≤◌, ◌+◌, ◌⊎◌, ℕ, List, [], ◌++◌, codes, length, take, drop}
use Rattle.history_book.specs.Trace.{line_end}
use Rattle.session_script.specs.Limits.{most_bytes}
use Rattle.trace_check.specs.Reading.{most_trace}

-- the line that parts them
abbrev pub parting_line : List ℕ
parting_line = codes "--" ++ line_end

-- the most bytes of an input: a script, the line between, and a trace
abbrev pub most_input : ℕ
most_input = most_bytes + length parting_line + most_trace

-- the bytes of which a session has any use: one more shows that an input is too long
abbrev pub most_input_read : ℕ
most_input_read = most_input + 1

-- whole lines: nothing, or a text that ends with LF
abbrev pub AreLines : List ℕ → Type 0
AreLines text = (text ≡ []) ⊎ ((front : List ℕ) × (text ≡ front ++ line_end))

-- the line stands at this place, behind whole lines
pub record LineStandsAt (input : List ℕ) (at : ℕ) : Type 0 where
  pub line : take 3 (drop at input) ≡ parting_line
  pub lines : AreLines (take at input)

-- between these two stands a line that is exactly `--`
pub record IsPartedInput (input before after : List ℕ) : Type 0 where
  pub text : input ≡ before ++ (parting_line ++ after)
  pub lines : AreLines before

-- the first such line parts the input into its script and its trace
pub record InputParts (input script trace : List ℕ) : Type 0 where
  pub parted : IsPartedInput input script trace
  pub first : (before after : List ℕ) → IsPartedInput input before after
      → length script ≤ length before

-- there is no such line
abbrev pub HasNoParting : List ℕ → Type 0
HasNoParting input = (before after : List ℕ) → IsPartedInput input before after → ⊥
