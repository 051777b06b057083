-- What follows from the definition of where a delimiter first ends.
use Rattle.std.proofs.Common.{◌≡◌, ℕ, ◌+◌, ◌-◌, ◌<◌, ◌≤◌, inl, inr, Bool, true, false, cond, Option, None, Some, List, [], ◌∷◌, ◌++◌, ◌⊎◌, length, take, drop, zero, suc, refl, sym, ap, ◌∙◌, add-one, arith}
use Rattle.std.specs.Option.{option_map}
use Rattle.std.specs.Str.{bytes_eq}
use Rattle.std.proofs.lemmas.Bool.{cases_lt}
use Rattle.std.proofs.lemmas.Bool.Decides.{nat_tests}
use Rattle.std.proofs.lemmas.List.{take-append-le, length-take}
use Rattle.std.proofs.lemmas.Slice.Eq.{bytes_eq-Decides}
use Rattle.stream_rules.specs.Delimiter.{first_end, EndsAt, FirstEndIsFirst}

-- a count of bytes behind so many others
abbrev pub behind : ℕ → Option ℕ → Option ℕ
behind before found = option_map (λ count. count + before) found

behind-none : (found : Option ℕ) → behind 0 found ≡ found
behind-none None = refl
behind-none (Some count) = ap Some (omega arith)

behind-behind : (a b : ℕ) (found : Option ℕ) → behind a (behind b found) ≡ behind (b + a) found
behind-behind a b None = refl
behind-behind a b (Some count) = ap Some (omega arith)

take-shorter : (n m : ℕ) (bytes : List ℕ) → n ≤ m → take n (take m bytes) ≡ take n bytes
take-shorter zero m bytes h = refl
take-shorter (suc n) zero bytes h = absurd (omega arith)
take-shorter (suc n) (suc m) [] h = refl
take-shorter (suc n) (suc m) (b ∷ bytes) h = ap (λ bs. b ∷ bs) (take-shorter n m bytes (omega arith))

-- whether the delimiter stands at the beginning
abbrev begins : List ℕ → List ℕ → Bool
begins delimiter bytes = bytes_eq (take (length delimiter) bytes) delimiter

found-none : (b : Bool) (count : ℕ) (rest : Option ℕ) → cond b (Some count) (behind 1 rest) ≡ None →
    (b ≡ false) × (rest ≡ None)
found-none true count rest h = absurd (cc)
found-none false count None h = (refl, refl)
found-none false count (Some n) h = absurd (cc)

-- where no occurrence ends among the bytes that were seen, the search goes on where the next one may begin
first_end-after : (delimiter bytes : List ℕ) (seen from : ℕ) → from + length delimiter ≤ seen →
    first_end delimiter (take seen bytes) ≡ None →
    first_end delimiter bytes ≡ behind from (first_end delimiter (drop from bytes))
first_end-after delimiter bytes seen zero h none = sym (behind-none (first_end delimiter bytes))
first_end-after delimiter [] seen (suc from) h none = refl
first_end-after delimiter (b ∷ bytes) zero (suc from) h none = absurd (omega arith)
first_end-after delimiter (b ∷ bytes) (suc seen) (suc from) h none =
    let parts =
    found-none (begins delimiter (b ∷ take seen bytes)) (length delimiter) (first_end delimiter (take seen bytes)) none in
    let same : take (length delimiter) (b ∷ take seen bytes) ≡ take (length delimiter) (b ∷ bytes) =
    take-shorter (length delimiter) (suc seen) (b ∷ bytes) (omega arith) in
    let test : begins delimiter (b ∷ bytes) ≡ false = ap (λ bs. bytes_eq bs delimiter) (sym same) ∙ parts.0 in
    let rest = first_end-after delimiter bytes seen from (omega arith) parts.1 in
    rw test (ap (behind 1) rest ∙ behind-behind 1 from (first_end delimiter (drop from bytes))
    ∙ ap (λ n. behind n (first_end delimiter (drop from bytes))) (add-one from))

-- at the beginning of the search
pub first_end-seen : (delimiter bytes : List ℕ) (seen : ℕ) → first_end delimiter (take seen bytes) ≡ None →
    first_end delimiter bytes
    ≡ behind (seen - length delimiter) (first_end delimiter (drop (seen - length delimiter) bytes))
first_end-seen delimiter bytes seen none =
    elim (cases_lt seen (length delimiter)) [
      | inl short ↦
          let none_yet : seen - length delimiter ≡ 0 = omega arith in
          rw none_yet (sym (behind-none (first_end delimiter bytes)))
      | inr long ↦ first_end-after delimiter bytes seen (seen - length delimiter) (omega arith) none
    ]

bytes_eq-turned : (xs ys : List ℕ) → bytes_eq xs ys ≡ bytes_eq ys xs
bytes_eq-turned [] [] = refl
bytes_eq-turned [] (y ∷ ys) = refl
bytes_eq-turned (x ∷ xs) [] = refl
bytes_eq-turned (x ∷ xs) (y ∷ ys) = grind (arith, nat_tests, bytes_eq-turned xs ys)

-- what the search finds at this place, by what stands there
pub first_end-at : (delimiter bytes : List ℕ) (at : ℕ) (stands : Bool) → at < length bytes →
    stands ≡ bytes_eq delimiter (take (length delimiter) (drop at bytes)) →
    first_end delimiter (drop at bytes)
    ≡ cond stands (Some (length delimiter)) (behind 1 (first_end delimiter (drop (suc at) bytes)))
first_end-at delimiter [] at stands within is = absurd (omega arith)
first_end-at delimiter (b ∷ bytes) zero stands within is =
    let test : begins delimiter (b ∷ bytes) ≡ stands =
    bytes_eq-turned (take (length delimiter) (b ∷ bytes)) delimiter ∙ sym is in
    rw test refl
first_end-at delimiter (b ∷ bytes) (suc at) stands within is = first_end-at delimiter bytes at stands (omega arith) is

-- no occurrence begins at this place
pub first_end-next : (delimiter bytes : List ℕ) (at : ℕ) → at < length bytes →
    false ≡ bytes_eq delimiter (take (length delimiter) (drop at bytes)) →
    first_end delimiter bytes ≡ behind at (first_end delimiter (drop at bytes)) →
    first_end delimiter bytes ≡ behind (at + 1) (first_end delimiter (drop (at + 1) bytes))
first_end-next delimiter bytes at within is so_far =
    let here = first_end-at delimiter bytes at false within is in
    rw add-one (so_far ∙ ap (behind at) here ∙ behind-behind at 1 (first_end delimiter (drop (suc at) bytes))
    ∙ ap (λ n. behind n (first_end delimiter (drop (suc at) bytes))) (omega arith))

-- an occurrence begins at this place
pub first_end-here : (delimiter bytes : List ℕ) (at : ℕ) → at < length bytes →
    true ≡ bytes_eq delimiter (take (length delimiter) (drop at bytes)) →
    first_end delimiter bytes ≡ behind at (first_end delimiter (drop at bytes)) →
    first_end delimiter bytes ≡ Some (at + length delimiter)
first_end-here delimiter bytes at within is so_far =
    let here = first_end-at delimiter bytes at true within is in
    so_far ∙ ap (behind at) here ∙ ap Some (omega arith)

same-bytes : (xs ys : List ℕ) → bytes_eq xs ys ≡ true → xs ≡ ys
same-bytes xs ys h = (bytes_eq-Decides xs ys).0 h

bytes-same : (xs ys : List ℕ) → xs ≡ ys → bytes_eq xs ys ≡ true
bytes-same xs ys h = (bytes_eq-Decides xs ys).1 h

-- a delimiter that stands at the beginning ends there
ends-here : (delimiter bytes : List ℕ) → begins delimiter bytes ≡ true → EndsAt delimiter bytes (length delimiter)
ends-here delimiter bytes stands =
    let same = same-bytes (take (length delimiter) bytes) delimiter stands in
    let long : length (take (length delimiter) bytes) ≡ length delimiter = ap length same in
    let none : length delimiter - length delimiter ≡ 0 = omega arith in
    record { begins = omega arith; within = omega (arith, length-take (length delimiter) bytes); stands = rw none same }

ends-more : (delimiter bytes : List ℕ) (b count : ℕ) → EndsAt delimiter bytes count →
    EndsAt delimiter (b ∷ bytes) (suc count)
ends-more delimiter bytes b count ends =
    let from : suc count - length delimiter ≡ suc (count - length delimiter) = omega (arith, ends.begins) in
    record { begins = omega (arith, ends.begins); within = omega (arith, ends.within); stands = rw from ends.stands }

ends-less : (delimiter bytes : List ℕ) (b count : ℕ) → length delimiter ≤ count →
    EndsAt delimiter (b ∷ bytes) (suc count) → EndsAt delimiter bytes count
ends-less delimiter bytes b count long ends =
    let from : suc count - length delimiter ≡ suc (count - length delimiter) = omega arith in
    record { begins = long; within = omega (arith, ends.within); stands = rw from at ends.stands }

-- what ends behind the first byte at least
ends-later : (delimiter bytes : List ℕ) (b count : ℕ) → begins delimiter (b ∷ bytes) ≡ false → 0 < length delimiter →
    EndsAt delimiter (b ∷ bytes) count → (earlier : ℕ) × (count ≡ suc earlier) × EndsAt delimiter bytes earlier
ends-later delimiter bytes b zero other some ends = absurd (omega (arith, ends.begins))
ends-later delimiter bytes b (suc count) other some ends =
    elim (cases_lt count (length delimiter)) [
      | inl short ↦
          let from : suc count - length delimiter ≡ 0 = omega (arith, ends.begins) in
          let here = bytes-same (take (length delimiter) (b ∷ bytes)) delimiter (rw from at ends.stands) in absurd (cc)
      | inr long ↦ (count, refl, ends-less delimiter bytes b count long ends)
    ]

-- without a first end there is none
no-end : (delimiter bytes : List ℕ) → 0 < length delimiter → first_end delimiter bytes ≡ None → (count : ℕ) →
    ¬ EndsAt delimiter bytes count
no-end delimiter [] some none count ends = omega (arith, ends.begins, ends.within)
no-end delimiter (b ∷ bytes) some none count ends =
    let parts = found-none (begins delimiter (b ∷ bytes)) (length delimiter) (first_end delimiter bytes) none in
    let later = ends-later delimiter bytes b count parts.0 some ends in
    no-end delimiter bytes some parts.1 later.0 later.2

-- what is found, by what stands at the beginning
record Found (delimiter bytes : List ℕ) (b count : ℕ) : Type 0 where
  stands : begins delimiter (b ∷ bytes) ≡ true
  here : count ≡ length delimiter

record FoundLater (delimiter bytes : List ℕ) (b count : ℕ) : Type 0 where
  other : begins delimiter (b ∷ bytes) ≡ false
  before : ℕ
  is : count ≡ suc before
  later : first_end delimiter bytes ≡ Some before

found-one : (delimiter bytes : List ℕ) (b count : ℕ) (test : Bool) (rest : Option ℕ) →
    begins delimiter (b ∷ bytes) ≡ test → first_end delimiter bytes ≡ rest →
    cond test (Some (length delimiter)) (behind 1 rest) ≡ Some count →
    Found delimiter bytes b count ⊎ FoundLater delimiter bytes b count
found-one delimiter bytes b count true rest test is found = inl (record { stands = test; here = cc })
found-one delimiter bytes b count false None test is found = absurd (cc)
found-one delimiter bytes b count false (Some n) test is found =
    let next : Some count ≡ Some (n + 1) = sym found in
    let same : count ≡ n + 1 = cc in
    inr (record { other = test; before = n; is = omega arith; later = is })

found-where : (delimiter bytes : List ℕ) (b count : ℕ) → first_end delimiter (b ∷ bytes) ≡ Some count →
    Found delimiter bytes b count ⊎ FoundLater delimiter bytes b count
found-where delimiter bytes b count found =
    found-one delimiter bytes b count (begins delimiter (b ∷ bytes)) (first_end delimiter bytes) refl refl found

-- where the first end is, an occurrence ends
pub first_end-ends : (delimiter bytes : List ℕ) (count : ℕ) → first_end delimiter bytes ≡ Some count →
    EndsAt delimiter bytes count
first_end-ends delimiter [] count found = absurd (cc)
first_end-ends delimiter (b ∷ bytes) count found =
    elim (found-where delimiter bytes b count found) [
      | inl at ↦ rw at.here (ends-here delimiter (b ∷ bytes) at.stands)
      | inr at ↦ rw at.is (ends-more delimiter bytes b at.before (first_end-ends delimiter bytes at.before at.later))
    ]

-- no occurrence ends before the first end
first_end-earlier : (delimiter bytes : List ℕ) (count earlier : ℕ) → 0 < length delimiter →
    first_end delimiter bytes ≡ Some count → earlier < count → ¬ EndsAt delimiter bytes earlier
first_end-earlier delimiter [] count earlier some found less ends = absurd (cc)
first_end-earlier delimiter (b ∷ bytes) count earlier some found less ends =
    elim (found-where delimiter bytes b count found) [
      | inl at ↦ omega (arith, ends.begins, at.here)
      | inr at ↦
          let later = ends-later delimiter bytes b earlier at.other some ends in
          first_end-earlier delimiter bytes at.before later.0 some at.later (omega (arith, at.is, later.1)) later.2
    ]

is-first : (delimiter bytes : List ℕ) (count : ℕ) (found : Option ℕ) → 0 < length delimiter →
    first_end delimiter bytes ≡ found → EndsAt delimiter bytes count →
    ((earlier : ℕ) → earlier < count → ¬ EndsAt delimiter bytes earlier) → found ≡ Some count
is-first delimiter bytes count None some is ends first = absurd (no-end delimiter bytes some is count ends)
is-first delimiter bytes count (Some n) some is ends first =
    elim (cases_lt n count) [
      | inl sooner ↦ absurd (first n sooner (first_end-ends delimiter bytes n is))
      | inr late ↦
          elim (cases_lt count n) [
            | inl less ↦ absurd (first_end-earlier delimiter bytes n count some is less ends)
            | inr not_less ↦ let same : n ≡ count = omega arith in ap Some same
          ]
    ]

pub first_end-is_first : FirstEndIsFirst
first_end-is_first delimiter bytes count some = (
  λ found. (
    first_end-ends delimiter bytes count found,
    λ earlier less. first_end-earlier delimiter bytes count earlier some found less,
  ),
  λ both. is-first delimiter bytes count (first_end delimiter bytes) some refl both.0 both.1,
)

-- what is found stays found where more bytes follow
pub first_end-append : (delimiter bytes more : List ℕ) (count : ℕ) → first_end delimiter bytes ≡ Some count →
    first_end delimiter (bytes ++ more) ≡ Some count
first_end-append delimiter [] more count found = absurd (cc)
first_end-append delimiter (b ∷ bytes) more count found =
    let ends = first_end-ends delimiter (b ∷ bytes) count found in
    let same : take (length delimiter) (b ∷ (bytes ++ more)) ≡ take (length delimiter) (b ∷ bytes) =
    take-append-le (length delimiter) (b ∷ bytes) more (omega (arith, ends.begins, ends.within)) in
    let test : begins delimiter (b ∷ (bytes ++ more)) ≡ begins delimiter (b ∷ bytes) =
    ap (λ bs. bytes_eq bs delimiter) same in
    elim (found-where delimiter bytes b count found) [
      | inl at ↦ rw (test, at.stands) (ap Some (sym at.here))
      | inr at ↦
          rw (test, at.other, first_end-append delimiter bytes more at.before at.later) (ap Some (omega (arith, at.is)))
    ]
