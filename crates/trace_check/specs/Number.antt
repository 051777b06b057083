-- Numbers in decimal, as a trace writes them.
use Rattle.std.specs.Prelude.{ℕ, Bool, false, not, ◌&&◌, ◌==◌, nat_lt, List, [], ◌∷◌, Option, Some, None, if◌then◌else◌}
use Rattle.std.specs.Fmt.{decimal}
use Rattle.std.specs.Str.{bytes_eq}
use Rattle.std.specs.Str.Parse.{digits_value}

-- the number below the bound whose decimal text this is
unfoldable pub number : ℕ → List ℕ → Option ℕ
number bound bytes =
    let value = digits_value 10 bytes in
    if bytes_eq bytes (decimal value) && nat_lt value bound then Some value else None

-- something stands there, with neither a plus sign nor a leading zero in front
abbrev pub is_plain : List ℕ → Bool
is_plain [] = false
is_plain (digit ∷ []) = not (digit == 43)
is_plain (digit ∷ next ∷ digits) = not (digit == 43) && not (digit == 48)
