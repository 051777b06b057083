-- Numbers in rising order: all from a number on that pass a test.
use Rattle.std.proofs.Common.{◌≡◌, ℕ, ◌+◌, ◌-◌, ◌<◌, ◌≤◌, inl, inr, suc, Bool, true, false, cond, List, [], ◌∷◌, Option, Some, None, refl, ap, ◌∙◌, subst, arith}
use Rattle.std.specs.List.{slice_get}
use Rattle.std.proofs.lemmas.Bool.{cases_eq}
use Rattle.session_script.specs.Script.{Entry, numbers_in, same_place}

abbrev pub IsListed : (ℕ → Bool) → ℕ → List ℕ → Type 0
IsListed test from [] = (n : ℕ) → from ≤ n → test n ≡ false
IsListed test from (first ∷ rest) =
    (from ≤ first) × ((n : ℕ) → from ≤ n → n < first → test n ≡ false) × (test first ≡ true)
    × IsListed test (suc first) rest

listed-before : (test : ℕ → Bool) (n : ℕ) (xs : List ℕ) → test n ≡ false → IsListed test (suc n) xs → IsListed test n xs
listed-before test n [] fails listed = λ m least. elim (cases_eq m n) [
  | inl same ↦ ap test same ∙ fails
  | inr differ ↦ listed m (omega (arith, least, differ))
]
listed-before test n (first ∷ rest) fails listed = (
  omega (arith, listed.0),
  λ m least below. elim (cases_eq m n) [
    | inl same ↦ ap test same ∙ fails
    | inr differ ↦ listed.1 m (omega (arith, least, differ)) below
  ],
  listed.2,
  listed.3,
)

-- the numbers of the acts that pass a test, the first of them being n
abbrev pub numbered : (Entry → Bool) → ℕ → List Entry → List ℕ
numbered test n [] = []
numbered test n (e ∷ es) = cond (test e) (n ∷ numbered test (n + 1) es) (numbered test (n + 1) es)

abbrev pub passes : (Entry → Bool) → Option Entry → Bool
passes test None = false
passes test (Some e) = test e

listed_by : (b : Bool) (test : ℕ → Bool) (n : ℕ) (xs : List ℕ) → test n ≡ b → IsListed test (suc n) xs →
    IsListed test n (cond b (n ∷ xs) xs)
listed_by true test n xs is listed = (omega arith, λ m least below. absurd (omega (arith, least, below)), is, listed)
listed_by false test n xs is listed = listed-before test n xs is listed

are_listed : (p : Entry → Bool) (test : ℕ → Bool) (n : ℕ) (es : List Entry) →
    ((k : ℕ) → test (n + k) ≡ passes p (slice_get es k)) → IsListed test n (numbered p n es)
are_listed p test n [] same = λ m least.
    let at : m ≡ n + (m - n) = omega (arith, least) in
    ap test at ∙ same (m - n)
are_listed p test n (e ∷ es) same =
    let here : n ≡ n + 0 = omega arith in
    let next : n + 1 ≡ suc n = omega arith in
    let rest =
    are_listed p test (n + 1) es (λ k. let at : n + 1 + k ≡ n + suc k = omega arith in ap test at ∙ same (suc k)) in
    listed_by (p e) test n (numbered p (n + 1) es) (ap test here ∙ same 0)
    (subst (λ m. IsListed test m (numbered p (n + 1) es)) next rest)

-- all the acts that pass a test are listed
pub all_listed : (p : Entry → Bool) (acts : List Entry) →
    IsListed (λ n. passes p (slice_get acts n)) 0 (numbered p 0 acts)
all_listed p acts =
    are_listed p (λ n. passes p (slice_get acts n)) 0 acts
    (λ k. let at : 0 + k ≡ k = omega arith in ap (λ n. passes p (slice_get acts n)) at)

-- an act of `open`
abbrev pub opens : Entry → Bool
opens e = same_place None e.parent

opening_by : (b : Bool) (n : ℕ) (xs ys : List ℕ) → xs ≡ ys → cond b (n ∷ xs) xs ≡ cond b (n ∷ ys) ys
opening_by b n xs ys same = ap (λ zs. cond b (n ∷ zs) zs) same

pub opening_numbered : (n : ℕ) (es : List Entry) → numbers_in None n es ≡ numbered opens n es
opening_numbered n [] = refl
opening_numbered n (e ∷ es) =
    opening_by (opens e) n (numbers_in None (n + 1) es) (numbered opens (n + 1) es) (opening_numbered (n + 1) es)
