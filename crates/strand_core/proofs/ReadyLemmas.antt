-- Operations that are ready once.
use Rattle.std.proofs.Common.{◌≡◌, ℕ, suc, ◌<◌, List, [], ◌∷◌, ◌++◌, Bool, true, false, ◌||◌, ◌==◌, ◌⊎◌, inl, inr, length, map, refl, sym, ap, ◌∙◌, arith}
use Rattle.std.specs.List.{list_any, IsDistinct, AllByRecursion}
use Rattle.std.proofs.Math.Dec.{eqb}
use Rattle.std.proofs.lemmas.Bool.{eqb-true, eq-eqb}
use Rattle.std.proofs.lemmas.List.Folds.{list_any-append}
use Rattle.std.proofs.lemmas.Map.Steps.{length-le_from_distinct_below}
use Rattle.asio_types.specs.declared.code.Code.{Code}
use Rattle.strand_core.specs.Ready.{AreOnce, is_among}

abbrev Ready : Type 0
Ready = ℕ × Code × ℕ

abbrev numbers : List Ready → List ℕ
numbers pushed = map (λ r. r.0) pushed

neither : (a b : Bool) → (a || b) ≡ false → (a ≡ false) × (b ≡ false)
neither true b is = absurd (cc is)
neither false b is = (refl, is)

-- two numbers that differ, the other way round
differ_too : (a b : ℕ) (t : Bool) → eqb a b ≡ false → eqb b a ≡ t → t ≡ false
differ_too a b false differ is = refl
differ_too a b true differ is = absurd (cc (differ, eq-eqb a b (sym (eqb-true b a is))))

pub once_more : (acts : ℕ) (r : Ready) (pushed : List Ready) → AreOnce acts pushed → r.0 < acts →
    is_among r.0 pushed ≡ false → AreOnce acts (pushed ++ r ∷ [])
once_more acts r [] once below new = (below, refl, tt)
once_more acts r (x ∷ xs) once below new =
    let parts = neither (x.0 == r.0) (is_among r.0 xs) new in
    let apart : is_among x.0 (xs ++ r ∷ []) ≡ false =
    list_any-append (λ ready. ready.0 == x.0) xs (r ∷ [])
    ∙ rw (once.1, differ_too x.0 r.0 (r.0 == x.0) parts.0 refl) refl in
    (once.0, apart, once_more acts r xs once.2 below parts.1)

apart_from : (op : ℕ) (pushed : List Ready) → is_among op pushed ≡ false →
    AllByRecursion (λ y. eqb op y ≡ false) (numbers pushed)
apart_from op [] new = tt
apart_from op (x ∷ xs) new =
    let parts = neither (x.0 == op) (is_among op xs) new in
    (differ_too x.0 op (eqb op x.0) parts.0 refl, apart_from op xs parts.1)

distinct : (acts : ℕ) (pushed : List Ready) → AreOnce acts pushed → IsDistinct eqb (numbers pushed)
unfolding IsDistinct
distinct acts [] once = tt
distinct acts (x ∷ xs) once = (apart_from x.0 xs once.1, distinct acts xs once.2)

first_or_more : (a b : Bool) → (a || b) ≡ true → (a ≡ true) ⊎ (b ≡ true)
first_or_more true b is = inl refl
first_or_more false b is = inr is

all_below : (acts : ℕ) (pushed : List Ready) → AreOnce acts pushed → (q : ℕ) →
    list_any (eqb q) (numbers pushed) ≡ true → q < acts
all_below acts [] once q is = absurd (cc is)
all_below acts (x ∷ xs) once q is =
    elim (first_or_more (eqb q x.0) (list_any (eqb q) (numbers xs)) is) [
      | inl same ↦ omega (arith, once.0, eqb-true q x.0 same)
      | inr more ↦ all_below acts xs once.2 q more
    ]

length-numbers : (pushed : List Ready) → length (numbers pushed) ≡ length pushed
length-numbers [] = refl
length-numbers (x ∷ xs) = ap suc (length-numbers xs)

-- where one more isn't pushed, there is room for it
pub fewer_once : (acts op : ℕ) (pushed : List Ready) → AreOnce acts pushed → op < acts → is_among op pushed ≡ false →
    length pushed < acts
unfolding IsDistinct
fewer_once acts op pushed once below new =
    let all : IsDistinct eqb (op ∷ numbers pushed) = (apart_from op pushed new, distinct acts pushed once) in
    let within : (q : ℕ) → list_any (eqb q) (op ∷ numbers pushed) ≡ true → q < acts =
    λ q is.
    elim (first_or_more (eqb q op) (list_any (eqb q) (numbers pushed)) is) [
      | inl same ↦ omega (arith, below, eqb-true q op same)
      | inr more ↦ all_below acts pushed once q more
    ] in
    omega (arith, length-le_from_distinct_below (op ∷ numbers pushed) acts all within, length-numbers pushed)
