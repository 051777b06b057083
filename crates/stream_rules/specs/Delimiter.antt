-- Where a delimiter first ends (Asio reference, async_read_until).
use Rattle.std.specs.Prelude.{ℕ, ◌≡◌, ◌↔◌, ◌+◌, ◌-◌, ◌<◌, ◌≤◌, List, [], ◌∷◌, Option, Some, None, length, take, drop, if◌then◌else◌}
use Rattle.std.specs.Option.{option_map}
use Rattle.std.specs.Str.{bytes_eq}

-- how many bytes there are up to and including the first occurrence, if there is one
abbrev pub first_end : List ℕ → List ℕ → Option ℕ
first_end delimiter [] = None
first_end delimiter (byte ∷ bytes) =
    if bytes_eq (take (length delimiter) (byte ∷ bytes)) delimiter then Some (length delimiter)
    else option_map (λ count. count + 1) (first_end delimiter bytes)

-- an occurrence of the delimiter ends behind so many bytes
pub record EndsAt (delimiter bytes : List ℕ) (count : ℕ) : Type 0 where
  pub begins : length delimiter ≤ count
  pub within : count ≤ length bytes
  pub stands : take (length delimiter) (drop (count - length delimiter) bytes) ≡ delimiter

-- the first end is that of an occurrence, and none ends before it
abbrev pub FirstEndIsFirst : Type 0
FirstEndIsFirst =
    (delimiter bytes : List ℕ) (count : ℕ) → 0 < length delimiter →
    (first_end delimiter bytes ≡ Some count)
    ↔ (EndsAt delimiter bytes count
    × ((earlier : ℕ) → earlier < count → ¬ EndsAt delimiter bytes earlier))
