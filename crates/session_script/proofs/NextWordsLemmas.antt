-- Which words may come next.
use Rattle.std.proofs.Common.{◌≡◌, ℕ, Bool, true, false, List, [], ◌∷◌, ◌⊎◌, inl, inr, refl, ap, ◌∙◌}
use Rattle.std.specs.Prelude.{◌||◌}
use Rattle.std.specs.Str.{bytes_eq}
use Rattle.session_script.specs.Text.{Words, IsWord}
use Rattle.session_script.proofs.AcceptingLemmas.{starts}
use Rattle.session_script.proofs.SpelledLemmas.{is_text}
use Rattle.session_script.proofs.AcceptingPartsLemmas.{same_text}

-- the next word is among these
abbrev pub IsAmong : List (List ℕ) → Words → Type 0
IsAmong [] ws = ⊥
IsAmong (text ∷ texts) ws = (starts text ws ≡ true) ⊎ IsAmong texts ws

-- a word is among these
abbrev pub is_among : List ℕ → List (List ℕ) → Bool
is_among text [] = false
is_among text (other ∷ others) = bytes_eq other text || is_among text others

pub word_starts : (text : List ℕ) (ws rest : Words) → IsWord text ws rest → starts text ws ≡ true
word_starts text ws rest is = ap (starts text) is ∙ same_text text

-- what starts with a word doesn't start with another
pub starts_with_another : (text other : List ℕ) (ws : Words) → starts text ws ≡ true → bytes_eq text other ≡ false →
    starts other ws ≡ false
starts_with_another text other [] is differs = refl
starts_with_another text other (w ∷ ws) is differs = ap (λ word. bytes_eq word other) (is_text w text is) ∙ differs

neither : (a b : Bool) → (a || b) ≡ false → (a ≡ false) × (b ≡ false)
neither true b h = absurd (cc)
neither false b h = (refl, h)

-- a word that isn't among those that may come next doesn't
pub starts_otherwise : (text : List ℕ) (texts : List (List ℕ)) (ws : Words) → is_among text texts ≡ false →
    IsAmong texts ws → starts text ws ≡ false
starts_otherwise text [] ws differs among = absurd among
starts_otherwise text (other ∷ others) ws differs (inl is) =
    starts_with_another other text ws is (neither (bytes_eq other text) (is_among text others) differs).0
starts_otherwise text (other ∷ others) ws differs (inr among) =
    starts_otherwise text others ws (neither (bytes_eq other text) (is_among text others) differs).1 among
