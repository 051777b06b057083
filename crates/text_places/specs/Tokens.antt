-- The tokens of a text, by the places where they begin.
use Rattle.std.specs.Prelude.{◌≡◌, ◌<◌, ◌+◌, ℕ, Bool, true, false, not, ◌&&◌, nat_le, List, [], ◌∷◌, length, take, slice_index, if◌then◌else◌}

-- a byte that may stand in a token
abbrev pub is_printable : ℕ → Bool
is_printable b = nat_le 0x21 b && nat_le b 0x7E

-- whether a token stands right behind a text, where one stood right before it or not
abbrev pub ends_inside : Bool → List ℕ → Bool
ends_inside inside [] = inside
ends_inside inside (b ∷ text) = ends_inside (is_printable b) text

-- how many tokens begin in a text; inside says whether one stands right before it
abbrev pub tokens_begun : Bool → List ℕ → ℕ
tokens_begun inside [] = 0
tokens_begun inside (b ∷ text) =
    (if is_printable b && not inside then 1 else 0) + tokens_begun (is_printable b) text

-- the token with this number, from 1, begins with the byte at this place
pub record IsTokenAt (text : List ℕ) (number at : ℕ) : Type 0 where
  pub within : at < length text
  pub before : tokens_begun false (take at text) + 1 ≡ number
  pub with : tokens_begun false (take (at + 1) text) ≡ number
