-- How long words are.
use Rattle.std.proofs.Common.{◌≡◌, ℕ, ◌+◌, ◌*◌, ◌<◌, List, [], ◌∷◌, ◌++◌, length, take, get_or, refl, ap, arith, length-append}
use Rattle.std.specs.List.{flat_map}
use Rattle.std.proofs.lemmas.List.{flat_map_more, take_more}
use Rattle.session_script.specs.Spelling.{encoded, written}
use Rattle.session_script.specs.Text.{Words}
use Rattle.group_script.specs.Measure.{span}

pub length-encoded : (bytes : List ℕ) → length (encoded bytes) ≡ 2 * length bytes
length-encoded [] = refl
length-encoded (byte ∷ bytes) = omega (arith, length-encoded bytes)

pub length-written : (text : List ℕ) (words : Words) → length (written text words) ≡ length text + span words
length-written text [] = omega arith
length-written text (word ∷ words) =
    omega (arith, length-written (text ++ 32 ∷ word) words, length-append text (32 ∷ word))

pub span-append : (a b : Words) → span (a ++ b) ≡ span a + span b
span-append [] b = omega arith
span-append (word ∷ a) b = omega (arith, span-append a b)

-- one more of a list of things that are written
pub span-more : {X : Type 0} (f : X → Words) (xs : List X) (i : ℕ) (d : X) → i < length xs →
    span (flat_map f (take (i + 1) xs)) ≡ span (flat_map f (take i xs)) + span (f (get_or xs i d))
span-more f xs i d within =
    let one = take_more xs i d within in
    let more = flat_map_more f [] (take i xs) (get_or xs i d) in
    let both = span-append (flat_map f (take i xs)) (f (get_or xs i d)) in
    let same = ap (λ ys. span (flat_map f ys)) one in
    let last = ap span more in
    omega (arith, same, last, both)
