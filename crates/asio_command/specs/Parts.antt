-- The parts of a file.
use Rattle.std.specs.Prelude.{◌≡◌, ℕ, List, Option, Some, None}
use Rattle.trace_check.specs.Parting.{HasNoParting, InputParts}

-- the script of a file, and its trace where a line parts them
abbrev pub IsFile : List ℕ → List ℕ → Option (List ℕ) → Type 0
IsFile text script None = HasNoParting text × (script ≡ text)
IsFile text script (Some trace) = InputParts text script trace

-- a line of the text parts a script from a trace
abbrev pub HasBothParts : List ℕ → Type 0
HasBothParts text = (script : List ℕ) × (trace : List ℕ) × InputParts text script trace
