-- The words for an element of a list.
use Rattle.std.proofs.Common.{◌≡◌, ℕ, zero, suc, ◌<◌, List, [], ◌∷◌, Some, None, length, ap, ◌∙◌, arith}
use Rattle.std.specs.Prelude.{Contains, slice_get}
use Rattle.std.proofs.lemmas.Option.{get_or_from_slice_get, slice_get-get_or, slice_get_within}
use lib.ListN.{get_elem?}
use mathlib.Core.Option.{some}
use Rattle.history_merge.proofs.DatesLemmas.{get_within}
use Rattle.history_merge.proofs.HistoryLemmas.{index_is}

pub some_same : {X : Type 0} (x y : X) → Some x ≡ Some y → x ≡ y
some_same x y same = cc

pub elem_of : {X : Type 0} (xs : List X) (k : ℕ) (x : X) → slice_get xs k ≡ Some x → get_elem? xs k ≡ some x
elem_of [] k x is = absurd (cc)
elem_of (y ∷ xs) zero x is = let same : y ≡ x = cc in ap some same
elem_of (y ∷ xs) (suc k) x is = elem_of xs k x is

pub of_elem : {X : Type 0} (xs : List X) (k : ℕ) (x : X) → get_elem? xs k ≡ some x → slice_get xs k ≡ Some x
of_elem xs k x is = slice_get-get_or xs k x (get_within xs k x is) ∙ ap Some (index_is xs k x x is)

pub contains_at : {X : Type 0} (xs : List X) (x : X) → Contains xs x → (k : ℕ) × (slice_get xs k ≡ Some x)
contains_at xs x found = (found.0, slice_get-get_or xs found.0 x found.1 ∙ ap Some found.2)

pub at_contains : {X : Type 0} (xs : List X) (k : ℕ) (x : X) → slice_get xs k ≡ Some x → Contains xs x
at_contains xs k x there = (k, slice_get_within xs k x there, get_or_from_slice_get xs k x x there)

pub not_past : {X : Type 0} (xs : List X) (k : ℕ) → slice_get xs k ≡ None → k < length xs → ⊥
not_past [] k none within = absurd (omega (arith, within))
not_past (x ∷ xs) zero none within = cc
not_past (x ∷ xs) (suc k) none within = not_past xs k none (omega (arith, within))
