-- Lines that are written one after the other.
use Rattle.std.proofs.Common.{◌≡◌, ℕ, ◌+◌, ◌<◌, suc, List, [], ◌∷◌, ◌++◌, length, take, get_or, Option, ap, sym, ◌∙◌, subst, arith}
use Rattle.std.specs.List.{flat_map}
use Rattle.std.proofs.Math.Seq.{take-suc}
use Rattle.std.proofs.lemmas.Grind.{flat_map-append}
use Rattle.std.proofs.lemmas.List.{append-nil}
use Rattle.std.proofs.lemmas.List.Concat.{flat_map-cons}
use Rattle.asio_types.specs.Sink.{Extends}
use Rattle.asio_types.proofs.SinkLemmas.{extends_more}

one_more_piece : {X : Type 0} (f : X → List ℕ) (xs : List X) (i : ℕ) (d : X) → i < length xs →
    flat_map f (take (i + 1) xs) ≡ flat_map f (take i xs) ++ f (get_or xs i d)
one_more_piece f xs i d inside =
    let next : i + 1 ≡ suc i = omega arith in
    ap (λ n. flat_map f (take n xs)) next ∙ ap (flat_map f) (take-suc xs i d inside)
    ∙ flat_map-append f (take i xs) (get_or xs i d ∷ [])
    ∙ ap (λ last. flat_map f (take i xs) ++ last) (flat_map-cons f (get_or xs i d) [] ∙ append-nil (f (get_or xs i d)))

-- the pieces before a place, and then the piece there
pub extends_by_piece : {X : Type 0} (f : X → List ℕ) (first second third : Option (List ℕ)) (xs : List X) (i : ℕ)
    (d : X) → i < length xs → Extends first (flat_map f (take i xs)) second →
    Extends second (f (get_or xs i d)) third → Extends first (flat_map f (take (i + 1) xs)) third
extends_by_piece f first second third xs i d inside before piece =
    subst (λ text. Extends first text third) (sym (one_more_piece f xs i d inside))
    (extends_more first second third (flat_map f (take i xs)) (f (get_or xs i d)) before piece)
