-- What follows where a text goes into a sink piece by piece.
use Rattle.std.proofs.Common.{◌≡◌, ℕ, ◌≤◌, ◌<◌, List, ◌++◌, length, take, drop, get_or, Option, ap, sym, ◌∙◌, subst, suc, arith, length-append, drop-cons}
use Rattle.std.specs.Io.{StartsWith}
use Rattle.std.specs.List.{flat_map}
use Rattle.std.proofs.Math.Seq.{take-append-add}
use Rattle.std.proofs.lemmas.Grind.{flat_map-append}
use Rattle.std.proofs.lemmas.List.{length-take, take-append-le, take-append-drop}
use Rattle.asio_types.specs.Sink.{Extends, ExtendsByPart}
use Rattle.asio_types.proofs.SinkLemmas.{extends_more}

within_whole : (piece ys : List ℕ) → StartsWith ys piece → length piece ≤ length ys
within_whole piece ys starts = omega (arith, ap length starts, length-take (length piece) ys)

starts_longer : (xs piece ys rest : List ℕ) → StartsWith ys piece → StartsWith (xs ++ (ys ++ rest)) (xs ++ piece)
starts_longer xs piece ys rest starts =
    ap (λ n. take n (xs ++ (ys ++ rest))) (length-append xs piece)
    ∙ take-append-add xs (ys ++ rest) (length piece)
    ∙ ap (λ zs. xs ++ zs) (take-append-le (length piece) ys rest (within_whole piece ys starts) ∙ starts)

-- pieces that are whole, and then a part of the next one
pub extends_by_pieces : (first second third : Option (List ℕ)) (xs ys rest : List ℕ) → Extends first xs second →
    ExtendsByPart second ys third → ExtendsByPart first (xs ++ (ys ++ rest)) third
extends_by_pieces first second third xs ys rest whole (piece, starts, part) =
    (xs ++ piece, starts_longer xs piece ys rest starts, extends_more first second third xs piece whole part)

-- the pieces before a place, the piece there, and the ones behind it
flat_map_split : {X : Type 0} (f : X → List ℕ) (xs : List X) (i : ℕ) (d : X) → i < length xs →
    flat_map f (take i xs) ++ (f (get_or xs i d) ++ flat_map f (drop (suc i) xs)) ≡ flat_map f xs
flat_map_split f xs i d inside =
    ap (λ ys. flat_map f (take i xs) ++ flat_map f ys) (sym (drop-cons xs i d inside))
    ∙ sym (flat_map-append f (take i xs) (drop i xs))
    ∙ ap (flat_map f) (take-append-drop i xs)

-- the pieces before a place, and then a part of the piece there
pub extends_by_part_at : {X : Type 0} (f : X → List ℕ) (first second third : Option (List ℕ)) (xs : List X) (i : ℕ)
    (d : X) (piece : List ℕ) → i < length xs → piece ≡ f (get_or xs i d) →
    Extends first (flat_map f (take i xs)) second → ExtendsByPart second piece third →
    ExtendsByPart first (flat_map f xs) third
extends_by_part_at f first second third xs i d piece inside same whole part =
    subst (λ ys. ExtendsByPart first ys third) (flat_map_split f xs i d inside)
    (extends_by_pieces first second third (flat_map f (take i xs)) (f (get_or xs i d)) (flat_map f (drop (suc i) xs)) whole
    (subst (λ ys. ExtendsByPart second ys third) same part))
