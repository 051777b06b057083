-- Numbers in decimal, as a run writes them.
use Rattle.std.specs.Prelude.{ℕ, ◌<◌, ◌^◌, Bool, false, not, ◌&&◌, ◌==◌, nat_lt, List, [], ◌∷◌, Option, Some, None, MatchOption, if◌then◌else◌, codes}
use Rattle.std.specs.Fmt.{decimal}
use Rattle.std.specs.Str.{bytes_eq}
use Rattle.std.specs.Str.Parse.{digits_value}

-- a number below 2^64
abbrev pub Is64 : ℕ → Type 0
Is64 number = number < 2 ^ 64

abbrev pub IsOptional : Option ℕ → Type 0
IsOptional number = MatchOption number (Unit {0}) Is64

-- a number, or `-` for none
abbrev pub optional_text : Option ℕ → List ℕ
optional_text None = codes "-"
optional_text (Some number) = decimal number

-- the number below 2^64 whose decimal text this is
unfoldable pub number_in : List ℕ → Option ℕ
number_in bytes =
    let value = digits_value 10 bytes in
    if bytes_eq bytes (decimal value) && nat_lt value (2 ^ 64) then Some value else None

-- something stands there, with neither a plus sign nor a leading zero in front
abbrev pub is_plain : List ℕ → Bool
is_plain [] = false
is_plain (digit ∷ []) = not (digit == 43)
is_plain (digit ∷ next ∷ digits) = not (digit == 43) && not (digit == 48)
