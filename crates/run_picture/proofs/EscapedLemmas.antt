-- Escaping goes byte by byte.
use Rattle.std.proofs.Common.{◌≡◌, ◌<◌, ◌+◌, ℕ, List, [], ◌∷◌, ◌++◌, length, refl, ap, sym, ◌∙◌, append_assoc, arith, suc}
use Rattle.std.proofs.Math.Seq.{take-suc}
use Rattle.std.proofs.lemmas.List.{append-nil}
use Rattle.std.specs.Prelude.{take, get_or}
use Rattle.run_picture.specs.Escaped.{escaped, escaped_byte}

escaped-append : (xs ys : List ℕ) → escaped (xs ++ ys) ≡ escaped xs ++ escaped ys
escaped-append [] ys = refl
escaped-append (x ∷ xs) ys =
    ap (λ (rest : List ℕ). escaped_byte x ++ rest) (escaped-append xs ys)
    ∙ sym (append_assoc (escaped_byte x) (escaped xs) (escaped ys))

-- one byte more
pub escaped_more : (text : List ℕ) (i : ℕ) → i < length text
    → escaped (take (i + 1) text) ≡ escaped (take i text) ++ escaped_byte (get_or text i 0)
escaped_more text i within =
    ap (λ (n : ℕ). escaped (take n text)) (let e : i + 1 ≡ suc i = omega arith in e)
    ∙ ap escaped (take-suc text i 0 within)
    ∙ escaped-append (take i text) (get_or text i 0 ∷ [])
    ∙ ap (λ (bytes : List ℕ). escaped (take i text) ++ bytes) (append-nil (escaped_byte (get_or text i 0)))
