-- What a word of a run is made of.
use Rattle.std.specs.Prelude.{◌≡◌, ◌≢◌, ℕ, ◌-◌, Bool, false, ◌&&◌, ◌||◌, ◌==◌, nat_le, IsTrue, List, [], ◌∷◌, ◌++◌, length, replicate, codes}
use Rattle.std.specs.List.{list_all}
pub mod Held

-- `a` to `z`
abbrev pub is_small_letter : ℕ → Bool
is_small_letter byte = nat_le 97 byte && nat_le byte 122

-- `0` to `9`
abbrev pub is_digit : ℕ → Bool
is_digit byte = nat_le 48 byte && nat_le byte 57

-- a small letter, a digit or `_`
abbrev pub may_follow : ℕ → Bool
may_follow byte = is_small_letter byte || is_digit byte || (byte == 95)

-- a small letter and up to 31 small letters, digits and `_`
unfoldable pub are_letters : List ℕ → Bool
are_letters [] = false
are_letters (first ∷ others) =
    is_small_letter first && list_all may_follow others && nat_le (length others) 31

abbrev pub IsLetters : List ℕ → Type 0
IsLetters bytes = IsTrue (are_letters bytes)

-- letters that are no posting
pub record IsOtherWord (letters : List ℕ) : Type 0 where
  pub not_post : letters ≢ codes "post"
  pub not_defer : letters ≢ codes "defer"
  pub not_dispatch : letters ≢ codes "dispatch"

-- letters that are none of the two codes with variants of their own
pub record IsOtherCode (letters : List ℕ) : Type 0 where
  pub not_ok : letters ≢ codes "ok"
  pub not_aborted : letters ≢ codes "aborted"

-- bytes, and as many zeros as make them 32
abbrev pub padded : List ℕ → List ℕ
padded bytes = bytes ++ replicate (32 - length bytes) 0
