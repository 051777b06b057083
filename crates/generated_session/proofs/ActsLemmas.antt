-- How the acts of a session that a number makes come item by item.
use Rattle.std.proofs.Common.{◌≡◌, ℕ, ◌+◌, ◌-◌, ◌<◌, ◌≤◌, zero, suc, Bool, true, false, cond, List, [], ◌∷◌, ◌++◌, length, refl, ap, sym, ◌∙◌, arith, append_assoc, nat_eq}
use Rattle.std.proofs.lemmas.List.{append-nil}
use Rattle.session_script.specs.Script.{Entry}
use Rattle.generated_session.specs.Generator.{Item, acts_from, acts_of_item, after_item, item_after, lone_act, opened}

-- the lengths of what four tests choose
length_of_choice : (a b c : Bool) (x : Entry) (y z w : List Entry) → length y ≡ 2 → length z ≡ 2 → length w ≡ 2 →
    length (cond a (x ∷ []) (cond b y (cond c z w))) ≡ cond a 1 2
length_of_choice true b c x y z w of_y of_z of_w = refl
length_of_choice false true c x y z w of_y of_z of_w = of_y
length_of_choice false false true x y z w of_y of_z of_w = of_z
length_of_choice false false false x y z w of_y of_z of_w = of_w

length_of_item : (n : ℕ) (item : Item) → length (acts_of_item n item) ≡ cond (nat_eq item.kind 0) 1 2
length_of_item n item =
    length_of_choice (nat_eq item.kind 0) (nat_eq item.kind 1) (nat_eq item.kind 2) _ _ _ _ refl refl refl

-- what comes after an item
rest_of : (b : Bool) (size n m k y : ℕ) → m ≡ n + cond b 1 2 → size - n ≡ suc (suc k) →
    acts_from (size - m) m y ≡ cond b (acts_from (suc k) (n + 1) y) (acts_from k (n + 2) y)
rest_of true size n m k y longer left =
    let fewer : size - m ≡ suc k = omega (arith, longer, left) in
    ap (λ rest. acts_from rest m y) fewer ∙ ap (λ first. acts_from (suc k) first y) longer
rest_of false size n m k y longer left =
    let fewer : size - m ≡ k = omega (arith, longer, left) in
    ap (λ rest. acts_from rest m y) fewer ∙ ap (λ first. acts_from k first y) longer

some_longer : (b : Bool) → (1 ≤ cond b 1 2) × (cond b 1 2 ≤ 2)
some_longer true = (omega arith, omega arith)
some_longer false = (omega arith, omega arith)

-- the acts so far with those to come are what they were before the item
pub record IsNext (size n m x : ℕ) (before new : List Entry) : Type 0 where
  pub grown : n < m
  pub within : m ≤ size
  pub rest : new ++ acts_from (size - m) m (after_item x) ≡ before ++ acts_from (size - n) n x

by_left : (left size n m x : ℕ) (before new : List Entry) → n < size → size - n ≡ left
    → (size - n ≡ 1 → new ≡ before ++ opened (lone_act (item_after x)) ∷ []) → (size - n ≡ 1 → m ≡ n + 1)
    → (2 ≤ size - n → new ≡ before ++ acts_of_item n (item_after x))
    → (2 ≤ size - n → m ≡ n + length (acts_of_item n (item_after x)))
    → IsNext size n m x before new
by_left zero size n m x before new inside left one one_more two longer = absurd (omega (arith, inside, left))
by_left (suc zero) size n m x before new inside left one one_more two longer =
    let length_is : m ≡ n + 1 = one_more left in
    let none : size - m ≡ 0 = omega (arith, length_is, left) in
    record {
      grown = omega (arith, length_is);
      within = omega (arith, length_is, inside);
      rest =
          ap (λ k. new ++ acts_from k m (after_item x)) none ∙ append-nil new ∙ one left
          ∙ ap (λ k. before ++ acts_from k n x) (sym left);
    }
by_left (suc (suc k)) size n m x before new inside left one one_more two longer =
    let item = item_after x in
    let y = after_item x in
    let many : 2 ≤ size - n = omega (arith, left) in
    let length_is : m ≡ n + cond (nat_eq item.kind 0) 1 2 =
    longer many ∙ ap (λ more. n + more) (length_of_item n item) in
    let some = some_longer (nat_eq item.kind 0) in
    let rest : List Entry = cond (nat_eq item.kind 0) (acts_from (suc k) (n + 1) y) (acts_from k (n + 2) y) in
    record {
      grown = omega (arith, length_is, some.0);
      within = omega (arith, length_is, some.1, left);
      rest = ap (λ tail. new ++ tail) (rest_of (nat_eq item.kind 0) size n m k y length_is left)
          ∙ ap (λ front. front ++ rest) (two many) ∙ append_assoc before (acts_of_item n item) rest
          ∙ ap (λ all. before ++ acts_from all n x) (sym left);
    }

-- appending an item, where so many acts are left
pub next_acts : (size left n m x : ℕ) (item : Item) (before new : List Entry) → n < size → left ≡ size - n →
    item ≡ item_after x → (left ≡ 1 → new ≡ before ++ opened (lone_act item) ∷ []) → (left ≡ 1 → m ≡ n + 1) →
    (2 ≤ left → new ≡ before ++ acts_of_item n item) → (2 ≤ left → m ≡ n + length (acts_of_item n item)) →
    IsNext size n m x before new
next_acts size left n m x item before new inside left_is item_is one one_more two longer =
    by_left (size - n) size n m x before new inside refl
    (λ last. one (left_is ∙ last) ∙ ap (λ i. before ++ opened (lone_act i) ∷ []) item_is)
    (λ last. one_more (left_is ∙ last))
    (λ many. two (omega (arith, many, left_is)) ∙ ap (λ i. before ++ acts_of_item n i) item_is)
    (λ many. longer (omega (arith, many, left_is)) ∙ ap (λ i. n + length (acts_of_item n i)) item_is)
