-- How many tokens begin in one byte more.
use Rattle.std.proofs.Common.{◌≡◌, ℕ, ◌+◌, ◌<◌, Bool, not, ◌&&◌, List, [], ◌∷◌, ◌++◌, length, take, get_or, if◌then◌else◌, refl, ap, ◌∙◌, arith}
use Rattle.std.proofs.lemmas.List.{take_more}
use Rattle.text_places.specs.Tokens.{is_printable, tokens_begun, ends_inside}

ends_inside-append : (inside : Bool) (text : List ℕ) (b : ℕ) → ends_inside inside (text ++ b ∷ []) ≡ is_printable b
ends_inside-append inside [] b = refl
ends_inside-append inside (a ∷ text) b = ends_inside-append (is_printable a) text b

tokens_begun-append : (inside : Bool) (text : List ℕ) (b : ℕ) →
    tokens_begun inside (text ++ b ∷ [])
    ≡ tokens_begun inside text + (if is_printable b && not (ends_inside inside text) then 1 else 0)
tokens_begun-append inside [] b = omega arith
tokens_begun-append inside (a ∷ text) b = omega (arith, tokens_begun-append (is_printable a) text b)

pub ends_inside-more : (text : List ℕ) (i : ℕ) (inside : Bool) → i < length text →
    ends_inside inside (take (i + 1) text) ≡ is_printable (get_or text i 0)
ends_inside-more text i inside within =
    ap (ends_inside inside) (take_more text i 0 within) ∙ ends_inside-append inside (take i text) (get_or text i 0)

pub tokens_begun-more : (text : List ℕ) (i : ℕ) (inside : Bool) → i < length text →
    tokens_begun inside (take (i + 1) text)
    ≡ tokens_begun inside (take i text)
    + (if is_printable (get_or text i 0) && not (ends_inside inside (take i text)) then 1 else 0)
tokens_begun-more text i inside within =
    ap (tokens_begun inside) (take_more text i 0 within)
    ∙ tokens_begun-append inside (take i text) (get_or text i 0)
