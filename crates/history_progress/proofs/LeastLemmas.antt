-- The least of what passes a test, by a key; and counts of what none passes.
use Rattle.std.proofs.Common.{◌≡◌, ◌⊎◌, ℕ, ◌<◌, ◌≤◌, zero, suc, Bool, true, false, cond, List, [], ◌∷◌, inl, inr, length, refl, sym, ap, ◌∙◌, arith}
use Rattle.std.specs.List.{count_by, slice_index_or}
use Rattle.std.proofs.lemmas.Bool.{cases_Bool, cases_eq, cases_lt}
use Rattle.std.proofs.lemmas.List.Sums.{sum_by-cons}
use Rattle.history_laws.proofs.CountLemmas.{one_if}

-- a number below a bound that passes, and of whose key none of these is less
pub record IsLeast (test : ℕ → Bool) (key : ℕ → ℕ) (bound n : ℕ) : Type 0 where
  pub within : n < bound
  pub passes : test n ≡ true
  pub least : (m : ℕ) → m < bound → test m ≡ true → key n ≤ key m

abbrev pub NonePasses : (ℕ → Bool) → ℕ → Type 0
NonePasses test bound = (n : ℕ) → n < bound → test n ≡ false

module _ (test : ℕ → Bool) (key : ℕ → ℕ) where
  abbrev HasLeast : ℕ → Type 0
  HasLeast bound = (n : ℕ) × IsLeast test key bound n

  never : (n : ℕ) → test n ≡ true → test n ≡ false → ⊥
  never n is isnt = let wrong : true ≡ false = sym is ∙ isnt in absurd (cc)

  past_one : (k : ℕ) → test k ≡ false → NonePasses test k ⊎ HasLeast k → NonePasses test (suc k) ⊎ HasLeast (suc k)
  past_one k isnt (inl none) = inl (λ n less. elim (cases_eq n k) [
    | inl same ↦ ap test same ∙ isnt
    | inr other ↦ none n (omega (arith, less, other))
  ])
  past_one k isnt (inr found) = inr (
    found.0,
    record {
      within = omega (arith, found.1.within);
      passes = found.1.passes;
      least = λ m less is. elim (cases_eq m k) [
        | inl same ↦ absurd (never k (ap test (sym same) ∙ is) isnt)
        | inr other ↦ found.1.least m (omega (arith, less, other)) is
      ];
    },
  )

  with_one : (k : ℕ) → test k ≡ true → NonePasses test k ⊎ HasLeast k → HasLeast (suc k)
  with_one k is (inl none) = (
    k,
    record {
      within = omega arith;
      passes = is;
      least = λ m less holds. elim (cases_eq m k) [
        | inl same ↦ let equal = ap key same in omega (arith, equal)
        | inr other ↦ absurd (never m holds (none m (omega (arith, less, other))))
      ];
    },
  )
  with_one k is (inr found) = elim (cases_lt (key k) (key found.0)) [
    | inl lower ↦ (
      k,
      record {
        within = omega arith;
        passes = is;
        least = λ m less holds. elim (cases_eq m k) [
          | inl same ↦ let equal = ap key same in omega (arith, equal)
          | inr other ↦
              let more = found.1.least m (omega (arith, less, other)) holds in omega (arith, lower, more)
        ];
      },
    )
    | inr higher ↦ (
      found.0,
      record {
        within = omega (arith, found.1.within);
        passes = found.1.passes;
        least = λ m less holds. elim (cases_eq m k) [
          | inl same ↦ let equal = ap key same in omega (arith, equal, higher)
          | inr other ↦ found.1.least m (omega (arith, less, other)) holds
        ];
      },
    )
  ]

  pub least_below : (bound : ℕ) → NonePasses test bound ⊎ HasLeast bound
  least_below zero = inl (λ n less. absurd (omega (arith, less)))
  least_below (suc k) = elim (cases_Bool (test k)) [
    | inl is ↦ inr (with_one k is (least_below k))
    | inr isnt ↦ past_one k isnt (least_below k)
  ]

-- of a list of which none passes none is counted
pub none_counted : {X : Type 0} (test : X → Bool) (xs : List X) → ((x : X) → test x ≡ false) → count_by test xs ≡ 0
none_counted test [] none = refl
none_counted test (x ∷ xs) none =
    let one = sum_by-cons (λ x. cond (test x) 1 0) x xs in
    let here = ap one_if (none x) in
    omega (arith, one, here, none_counted test xs none)

-- a flag that is counted is set somewhere
pub some_set : (flags : List Bool) → 1 ≤ count_by (λ flag. flag) flags →
    (n : ℕ) × (n < length flags) × (slice_index_or flags n false ≡ true)
some_set [] some = absurd (omega (arith, some))
some_set (true ∷ flags) some = (0, omega arith, refl)
some_set (false ∷ flags) some =
    let one = sum_by-cons (λ (flag : Bool). cond flag 1 0) false flags in
    let rest = some_set flags (omega (arith, one, some)) in
    (suc rest.0, let within = rest.1 in omega (arith, within), rest.2)

-- no more are counted than there are
pub count_most : {X : Type 0} (test : X → Bool) (xs : List X) → count_by test xs ≤ length xs
count_most test [] = omega arith
count_most test (x ∷ xs) =
    let one = sum_by-cons (λ x. cond (test x) 1 0) x xs in
    omega (arith, one, one_most (test x), count_most test xs)
  where
    one_most : (passes : Bool) → one_if passes ≤ 1
    one_most true = omega arith
    one_most false = omega arith
