-- The list of the free places, as one place changes.
use Rattle.std.proofs.Common.{arith, ap, cond, eqb, refl, subst, sym, ◌∙◌, ⊎_elim, ◌≢◌}
use Rattle.std.proofs.lemmas.Bool.{cases_lt, le-ltb, lt-ltb, true≢false}
use Rattle.std.proofs.lemmas.Bool.Decides.{eqb_tells, nat_tests}
use Rattle.std.proofs.lemmas.List.{get_or-replicate, get_or-set_other, get_or-set_same, get_or_past, get_or_read, length-replicate, length-set, length_push}
use Rattle.std.proofs.lemmas.List.Folds.{sum_by-replicate}
use Rattle.std.proofs.lemmas.List.Sums.{count_by-le-length, sum_by-set}
use Rattle.std.specs.Prelude.{◌≡◌, ◌<◌, ◌≤◌, ℕ, suc, ◌+◌, ◌==◌, not, if◌then◌else◌, Bool, true, false, List, [], ◌∷◌, ◌++◌, count_by, length, nat_lt, replicate, ◌||◌}
use Rattle.std.specs.List.{list_any, slice_index_or, slice_set}
use Rattle.io_rules.specs.declared.place.Life.{Life}
use Rattle.io_rules.specs.declared.place.Life.TheVariants as life
use Rattle.io_rules.specs.declared.place.Place.{Place}
use Rattle.io_rules.specs.Completing.{others_than}
use Rattle.io_rules.specs.Names.{any_free, is_unused, new_place, no_place, place_at}
use Rattle.io_rules.specs.Room.{one_if}
use Rattle.io_rules.proofs.TotalLemmas.{equal, same}
use Rattle.io_names.specs.Free.{AreFree, times}

abbrev unused : Place → Bool
unused place = is_unused place.life

place_here : (places : List Place) (p n : ℕ) (new : Place) → p < length places → p ≡ n →
    place_at (slice_set places p new) n ≡ new
place_here places p n new within is =
    subst (λ k. place_at (slice_set places p new) k ≡ new) is (get_or-set_same places p new no_place within)

place_else : (places : List Place) (p n : ℕ) (new : Place) → p ≢ n →
    place_at (slice_set places p new) n ≡ place_at places n
place_else places p n new other = get_or-set_other places p n new no_place (λ is. other (sym is))

cond_is : (b : Bool) → cond b 1 0 ≡ one_if b
cond_is true = refl
cond_is false = refl

counted_set : (places : List Place) (p : ℕ) (new : Place) (a b : Bool) → p < length places →
    unused (place_at places p) ≡ a → unused new ≡ b →
    count_by unused (slice_set places p new) + one_if a ≡ count_by unused places + one_if b
counted_set places p new a b within was is =
    let step = sum_by-set (λ place. cond (unused place) 1 0) places p new no_place within in
    let old = cond_is (unused (place_at places p)) ∙ ap one_if was in
    let put = cond_is (unused new) ∙ ap one_if is in
    omega (arith, step, old, put)

first_counts : (p : ℕ) (ps : List ℕ) → times p (p ∷ ps) ≡ suc (times p ps)
first_counts p ps = let one = ap one_if (same p) in omega (arith, one)

only_one : (b : Bool) (n : ℕ) → suc n ≡ one_if b → b ≡ true
only_one true n is = refl
only_one false n is = absurd (omega (arith, is))

pub first_unused : (p : ℕ) (ps : List ℕ) (places : List Place) → AreFree (p ∷ ps) places →
    unused (place_at places p) ≡ true
first_unused p ps places free =
    only_one (unused (place_at places p)) (times p ps) (sym (first_counts p ps) ∙ free.once p)

pub first_within : (p : ℕ) (ps : List ℕ) (places : List Place) → AreFree (p ∷ ps) places → p < length places
first_within p ps places free =
    ⊎_elim (λ (lt : p < length places). lt)
    (λ (le : length places ≤ p).
    absurd
    (true≢false (sym (first_unused p ps places free) ∙ ap unused (get_or_past places p no_place le))))
    (cases_lt p (length places))

-- the first one is taken
pub taken : (p : ℕ) (ps : List ℕ) (places : List Place) (new : Place) → unused new ≡ false →
    AreFree (p ∷ ps) places → AreFree ps (slice_set places p new)
taken p ps places new isnt free =
    let within = first_within p ps places free in
    let step = counted_set places p new true false within (first_unused p ps places free) isnt in
    let all = free.all in
    record {
      once = λ n.
          ⊎_elim
          (λ (t : (eqb p n ≡ true) × (p ≡ n)).
          let none = subst (λ k. suc (times k ps) ≡ one_if (unused (place_at places k))) t.1
          (sym (first_counts p ps) ∙ free.once p) in
          left_none (unused (place_at places n)) (times n ps) none
          ∙ sym (ap (λ at. one_if (unused at)) (place_here places p n new within t.1) ∙ ap one_if isnt))
          (λ (t : (eqb p n ≡ false) × (p ≢ n)).
          let here = ap one_if t.0 in let old = free.once n in
          let rest : times n ps ≡ one_if (unused (place_at places n)) = omega (arith, here, old) in
          rest ∙ sym (ap (λ at. one_if (unused at)) (place_else places p n new t.1)))
          (eqb_tells p n);
      all = omega (arith, step, all);
    }
  where
    left_none : (b : Bool) (n : ℕ) → suc n ≡ one_if b → n ≡ 0
    left_none true n is = omega (arith, is)
    left_none false n is = absurd (omega (arith, is))

-- a place isn't listed any more
here_if : (b : Bool) (x p : ℕ) (rest : List ℕ) → (x == p) ≡ b → times p rest ≡ 0 →
    times p (if not b then x ∷ rest else rest) ≡ 0
here_if true x p rest is none = none
here_if false x p rest is none = let here = ap one_if is in omega (arith, here, none)

left_here : (p : ℕ) (xs : List ℕ) → times p (others_than p xs) ≡ 0
left_here p [] = refl
left_here p (x ∷ xs) = here_if (x == p) x p (others_than p xs) refl (left_here p xs)

else_if : (b : Bool) (x p n : ℕ) (rest xs : List ℕ) → (x == p) ≡ b → p ≢ n → times n rest ≡ times n xs →
    times n (if not b then x ∷ rest else rest) ≡ times n (x ∷ xs)
else_if true x p n rest xs is other same_times =
    ⊎_elim
    (λ (t : (eqb x n ≡ true) × (x ≡ n)). absurd (other (sym (equal x p is) ∙ t.1)))
    (λ (t : (eqb x n ≡ false) × (x ≢ n)). let here = ap one_if t.0 in omega (arith, here, same_times)) (eqb_tells x n)
else_if false x p n rest xs is other same_times = omega (arith, same_times)

left_else : (p n : ℕ) (xs : List ℕ) → p ≢ n → times n (others_than p xs) ≡ times n xs
left_else p n [] other = refl
left_else p n (x ∷ xs) other = else_if (x == p) x p n (others_than p xs) xs refl other (left_else p n xs other)

length_if : (b : Bool) (x : ℕ) (rest : List ℕ) (n m : ℕ) → length rest + n ≡ m →
    length (if not b then x ∷ rest else rest) + (one_if b + n) ≡ suc m
length_if true x rest n m is = omega (arith, is)
length_if false x rest n m is = omega (arith, is)

left_length : (p : ℕ) (xs : List ℕ) → length (others_than p xs) + times p xs ≡ length xs
left_length p [] = omega arith
left_length p (x ∷ xs) =
    length_if (x == p) x (others_than p xs) (times p xs) (length xs) (left_length p xs)

pub unlisted : (p : ℕ) (ps : List ℕ) (places : List Place) (new : Place) → p < length places →
    unused (place_at places p) ≡ true → unused new ≡ false → AreFree ps places →
    AreFree (others_than p ps) (slice_set places p new)
unlisted p ps places new within was isnt free =
    let step = counted_set places p new true false within was isnt in
    let all = free.all in let left = left_length p ps in let one = free.once p ∙ ap one_if was in
    record {
      once = λ n.
          ⊎_elim
          (λ (t : (eqb p n ≡ true) × (p ≡ n)).
          subst (λ k. times k (others_than p ps) ≡ 0) t.1 (left_here p ps)
          ∙ sym (ap (λ at. one_if (unused at)) (place_here places p n new within t.1) ∙ ap one_if isnt))
          (λ (t : (eqb p n ≡ false) × (p ≢ n)).
          left_else p n ps t.1 ∙ free.once n
          ∙ sym (ap (λ at. one_if (unused at)) (place_else places p n new t.1)))
          (eqb_tells p n);
      all = omega (arith, step, all, left, one);
    }

-- one more is free
pub given : (p : ℕ) (ps : List ℕ) (places : List Place) (new : Place) → p < length places →
    unused (place_at places p) ≡ false → unused new ≡ true → AreFree ps places →
    AreFree (p ∷ ps) (slice_set places p new)
given p ps places new within was is free =
    let step = counted_set places p new false true within was is in
    let all = free.all in
    record {
      once = λ n.
          ⊎_elim
          (λ (t : (eqb p n ≡ true) × (p ≡ n)).
          let here = ap one_if t.0 in
          let none = subst (λ k. times k ps ≡ 0) t.1 (free.once p ∙ ap one_if was) in
          let left : times n (p ∷ ps) ≡ 1 = omega (arith, here, none) in
          left ∙ sym (ap (λ at. one_if (unused at)) (place_here places p n new within t.1) ∙ ap one_if is))
          (λ (t : (eqb p n ≡ false) × (p ≢ n)).
          let here = ap one_if t.0 in let old = free.once n in
          let rest : times n (p ∷ ps) ≡ one_if (unused (place_at places n)) = omega (arith, here, old) in
          rest ∙ sym (ap (λ at. one_if (unused at)) (place_else places p n new t.1)))
          (eqb_tells p n);
      all = omega (arith, step, all);
    }

-- a place that isn't free comes to something else that isn't
pub stays : (p : ℕ) (ps : List ℕ) (places : List Place) (new : Place) → p < length places →
    unused (place_at places p) ≡ false → unused new ≡ false → AreFree ps places →
    AreFree ps (slice_set places p new)
stays p ps places new within was isnt free =
    let step = counted_set places p new false false within was isnt in
    let all = free.all in
    record {
      once = λ n.
          free.once n
          ∙ ⊎_elim
          (λ (t : (eqb p n ≡ true) × (p ≡ n)).
          subst (λ k. one_if (unused (place_at places k)) ≡ 0) t.1 (ap one_if was)
          ∙ sym (ap (λ at. one_if (unused at)) (place_here places p n new within t.1) ∙ ap one_if isnt))
          (λ (t : (eqb p n ≡ false) × (p ≢ n)).
          sym (ap (λ at. one_if (unused at)) (place_else places p n new t.1)))
          (eqb_tells p n);
      all = omega (arith, step, all);
    }

-- there is room for one more, where a place isn't free
pub has_room : (p : ℕ) (ps : List ℕ) (places : List Place) → p < length places →
    unused (place_at places p) ≡ false → AreFree ps places → length ps < length places
has_room p ps places within was free =
    let step = counted_set places p new_place false true within was refl in
    let most = count_by-le-length unused (slice_set places p new_place) in
    let many = length-set places p new_place in
    let all = free.all in
    omega (arith, step, most, many, all)

times-push : (n p : ℕ) (ps : List ℕ) → times n (ps ++ p ∷ []) ≡ times n (p ∷ ps)
times-push n p [] = refl
times-push n p (x ∷ ps) = let rest = times-push n p ps in omega (arith, rest)

-- the list may have it last as well
pub turned : (p : ℕ) (ps : List ℕ) (places : List Place) → AreFree (p ∷ ps) places →
    AreFree (ps ++ p ∷ []) places
turned p ps places free =
    let longer = length_push ps p in let all = free.all in
    record { once = λ n. times-push n p ps ∙ free.once n; all = omega (arith, longer, all) }

none_any : (places : List Place) → ((n : ℕ) → one_if (unused (place_at places n)) ≡ 0) →
    list_any unused places ≡ false
none_any [] none = refl
none_any (place ∷ places) none =
    first_no (unused place) (list_any unused places) (none 0) (none_any places (λ n. none (suc n)))
  where
    first_no : (a b : Bool) → one_if a ≡ 0 → b ≡ false → (a || b) ≡ false
    first_no true b is rest = absurd (omega (arith, is))
    first_no false b is rest = rest

-- where the list is empty none is free
pub none_free : (free : List ℕ) (places : List Place) → length free ≡ 0 → AreFree free places →
    any_free places ≡ false
none_free [] places empty are = none_any places (λ n. sym (are.once n))
none_free (x ∷ free) places empty are = absurd (omega (arith, empty))

-- the first ones, while a table is made
pub record AreFirst (at : ℕ) (free : List ℕ) : Type 0 where
  pub once : (n : ℕ) → times n free ≡ one_if (nat_lt n at)
  pub all : length free ≡ at

pub one_more : (at : ℕ) (free : List ℕ) → AreFirst at free → AreFirst (at + 1) (free ++ at ∷ [])
one_more at free are =
    let longer = length_push free at in let all = are.all in
    record { once = λ n. times-push n at free ∙ counted n (are.once n); all = omega (arith, longer, all) }
  where
    counted : (n : ℕ) → times n free ≡ one_if (nat_lt n at) → times n (at ∷ free) ≡ one_if (nat_lt n (at + 1))
    counted n is = grind (arith, nat_tests)

pub all_first : (limit : ℕ) (free : List ℕ) → AreFirst limit free → AreFree free (replicate limit new_place)
all_first limit free are =
    record {
      once = λ n.
          are.once n
          ∙ ⊎_elim
          (λ (lt : n < limit).
          ap one_if (lt-ltb n limit lt)
          ∙ sym (ap (λ at. one_if (unused at)) (get_or-replicate limit n new_place no_place lt)))
          (λ (le : limit ≤ n).
          let many = length-replicate limit new_place in
          ap one_if (le-ltb n limit le)
          ∙ sym (ap (λ at. one_if (unused at)) (get_or_past (replicate limit new_place) n no_place (omega (arith, le, many)))))
          (cases_lt n limit);
      all =
          let all = are.all in
          let each = sum_by-replicate (λ place. cond (unused place) 1 0) limit new_place in
          omega (arith, all, each);
    }

pub not_unused : (l : Life) → (l ≡ life.Free → ⊥) → is_unused l ≡ false
not_unused life.Free other = absurd (other refl)
not_unused (life.Kept op) other = refl
not_unused life.Alive other = refl
not_unused life.Closing other = refl
not_unused life.Spent other = refl

-- what is read at a place
pub read : (places : List Place) (p : ℕ) (at : Place) → p < length places → at ≡ slice_index_or places p at →
    place_at places p ≡ at
read places p at within is = sym (get_or_read places p at within is no_place)
