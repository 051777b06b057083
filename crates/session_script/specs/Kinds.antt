-- The kinds of tokens, and what each place of the grammar wants of one. A test gives what the token
-- says, or the first rule that it breaks: a token of no kind, another kind or word, then the number
-- itself, then what it names or exceeds.
use Rattle.std.specs.Prelude.{ℕ, ◌+◌, ◌-◌, ◌*◌, ◌/◌, ◌%◌, ◌^◌, Bool, not, ◌&&◌, ◌||◌, ◌==◌, nat_lt, nat_le, List, [], ◌∷◌, length, drop, Option, Some, None, Result, Ok, Err, if◌then◌else◌, slice_index}
use Rattle.std.specs.List.{list_all}
use Rattle.std.specs.Str.{bytes_eq}
use lib.Chars.{codes}
use Rattle.session_script.specs.declared.refusal.Rule.{Rule}
use Rattle.session_script.specs.declared.refusal.Rule.TheVariants as rule
use Rattle.session_script.specs.declared.round.Pace.{Pace}
use Rattle.session_script.specs.declared.round.Pace.TheVariants as pace

abbrev pub is_lowercase : ℕ → Bool
is_lowercase b = nat_le 97 b && nat_le b 122

abbrev pub is_digit : ℕ → Bool
is_digit b = nat_le 48 b && nat_le b 57

-- `0` to `9` and `a` to `f`
abbrev pub is_hexadecimal : ℕ → Bool
is_hexadecimal b = is_digit b || (nat_le 97 b && nat_le b 102)

-- a run of `a` to `z`
unfoldable pub is_word : List ℕ → Bool
is_word bytes = not (length bytes == 0) && list_all is_lowercase bytes

-- a run of `0` to `9`
unfoldable pub is_number : List ℕ → Bool
is_number bytes = not (length bytes == 0) && list_all is_digit bytes

-- `x` and an even, positive number of hexadecimal digits
unfoldable pub is_data : List ℕ → Bool
is_data bytes =
    nat_le 3 (length bytes) && (length bytes % 2 == 1) && (slice_index bytes 0 == 120)
    && list_all is_hexadecimal (drop 1 bytes)

-- `{`, `}` or `-`
abbrev pub is_mark : List ℕ → Bool
is_mark bytes =
    bytes_eq bytes (codes "{") || bytes_eq bytes (codes "}") || bytes_eq bytes (codes "-")

-- what a token breaks that isn't of the kind, or isn't the word, that the grammar wants there
unfoldable pub misplaced : List ℕ → Rule
misplaced bytes =
    if is_word bytes || is_number bytes || is_data bytes || is_mark bytes then rule.Shape
    else rule.Token

infixl 10 ◌>>=◌
abbrev pub ◌>>=◌ : {A B : Type 0} → Result A Rule → (A → Result B Rule) → Result B Rule
(Ok value) >>= f = f value
(Err violated) >>= f = Err violated

-- a quoted word, or a brace
unfoldable pub exactly : List ℕ → List ℕ → Result Unit Rule
exactly word bytes = if bytes_eq bytes word then Ok tt else Err (misplaced bytes)

-- what begins one more of something, unless there are as many as the limit allows
unfoldable pub another_word : List ℕ → Bool → List ℕ → Result Unit Rule
another_word word full bytes = do
  _ ← exactly word bytes
  if full then Err rule.Limit else Ok tt

-- the value of decimal digits after others of this value
abbrev pub decimal_from : ℕ → List ℕ → ℕ
decimal_from value [] = value
decimal_from value (digit ∷ digits) = decimal_from (10 * value + (digit - 48)) digits

-- a number below 2^64, without a leading zero
unfoldable pub number : List ℕ → Result ℕ Rule
number bytes =
    if not (is_number bytes) then Err (misplaced bytes)
    else (if nat_lt 1 (length bytes) && (slice_index bytes 0 == 48) then Err rule.Number
    else (if nat_lt (decimal_from 0 bytes) (2 ^ 64) then Ok (decimal_from 0 bytes)
    else Err rule.Number))

-- a number within limits
unfoldable pub within : ℕ → ℕ → List ℕ → Result ℕ Rule
within least most bytes = do
  value ← number bytes
  if nat_le least value && nat_le value most then Ok value else Err rule.Limit

-- the number of one of so many that are declared
unfoldable pub known : ℕ → List ℕ → Result ℕ Rule
known count bytes = do
  value ← number bytes
  if nat_lt value count then Ok value else Err rule.Unknown

-- `-`, or such a number
unfoldable pub chosen : ℕ → List ℕ → Result (Option ℕ) Rule
chosen count bytes =
    if bytes_eq bytes (codes "-") then Ok None else (known count bytes >>= λ value. Ok (Some value))

-- `1` or `2`
unfoldable pub version : List ℕ → Result ℕ Rule
version bytes = do
  value ← number bytes
  if (value == 1) || (value == 2) then Ok value else Err rule.Version

-- the digits of DATA of so many bytes at most
unfoldable pub data_digits : ℕ → List ℕ → Result (List ℕ) Rule
data_digits most bytes =
    if not (is_data bytes) then Err (misplaced bytes)
    else (if nat_le (length bytes / 2) most then Ok (drop 1 bytes) else Err rule.Limit)

-- the value of a hexadecimal digit
abbrev pub hexadecimal : ℕ → ℕ
hexadecimal digit = if nat_le digit 57 then digit - 48 else digit - 97 + 10

-- two digits a byte
abbrev pub decoded : List ℕ → List ℕ
decoded [] = []
decoded (high ∷ []) = []
decoded (high ∷ low ∷ digits) = (16 * hexadecimal high + hexadecimal low) ∷ decoded digits

-- `run` or `poll`, while there is room for one more round
unfoldable pub pace_word : Bool → List ℕ → Result Pace Rule
pace_word full bytes =
    if bytes_eq bytes (codes "run") then (if full then Err rule.Limit else Ok pace.Run)
    else (if bytes_eq bytes (codes "poll") then (if full then Err rule.Limit else Ok pace.Poll)
    else Err (misplaced bytes))
