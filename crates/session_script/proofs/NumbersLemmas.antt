-- Decimal digits, read from the left.
use Rattle.std.proofs.Common.{◌≡◌, ℕ, suc, ◌+◌, ◌-◌, ◌*◌, ◌≤◌, ◌<◌, List, [], ◌∷◌, length, drop, get_or, drop-cons, refl, arith}
use Rattle.session_script.specs.Kinds.{decimal_from, decoded}

-- more digits don't make the value less
pub decimal_from-above : (value : ℕ) (digits : List ℕ) → value ≤ decimal_from value digits
decimal_from-above value [] = omega arith
decimal_from-above value (digit ∷ digits) = omega (arith, decimal_from-above (10 * value + (digit - 48)) digits)

-- where the digits so far and one more are at a limit, the whole number is
pub decimal_overflows : (value i limit total : ℕ) (digits : List ℕ) → i < length digits →
    decimal_from value (drop i digits) ≡ total → limit ≤ 10 * value + (get_or digits i 0 - 48) → limit ≤ total
decimal_overflows value i limit total digits within so_far over =
    let one : decimal_from value (drop i digits)
    ≡ decimal_from (10 * value + (get_or digits i 0 - 48)) (drop (suc i) digits) =
    rw (drop-cons digits i 0 within) refl in
    omega (arith, so_far, one, decimal_from-above (10 * value + (get_or digits i 0 - 48)) (drop (suc i) digits))

-- one digit alone is no byte
pub decoded-short : (digits : List ℕ) → length digits ≤ 1 → decoded digits ≡ []
decoded-short [] short = refl
decoded-short (high ∷ []) short = refl
decoded-short (high ∷ low ∷ digits) short = absurd (omega arith)
