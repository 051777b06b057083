-- Numbers gathered over a list, by an operation with 0 as its unit: as a sum, or as the greatest one.
use Rattle.std.proofs.Common.{◌≡◌, ◌≢◌, ℕ, zero, suc, ◌+◌, ◌<◌, ◌≤◌, inl, inr, length, get_or, nat_le, max, Bool, true, false, not, cond, List, [], ◌∷◌, ◌++◌, map, filter, refl, ap, sym, ◌∙◌, arith}
use Rattle.std.specs.List.{All}
use Rattle.std.proofs.lemmas.Bool.{cases_eq}
use Rattle.std.proofs.lemmas.List.Elements.{All-head, All-tail}
use Rattle.history_rules.specs.Settling.{put_by, sorted_by}

abbrev pub one_if : Bool → ℕ
one_if b = cond b 1 0

pub none_more : (n : ℕ) → n ≡ 0 + n
none_more n = omega arith

pub all_by : {X : Type 0} (P Q : X → Type 0) (xs : List X) → ((x : X) → P x → Q x) → All P xs → All Q xs
all_by P Q xs each all = λ k d within. each (get_or xs k d) (all k d within)

pub all_any : {X : Type 0} (P : X → Type 0) (xs : List X) → ((x : X) → P x) → All P xs
all_any P xs each = λ k d within. each (get_or xs k d)

pub all_both : {X : Type 0} (P Q R : X → Type 0) (xs : List X) → ((x : X) → P x → Q x → R x) → All P xs → All Q xs →
    All R xs
all_both P Q R xs each one two = λ k d within. each (get_or xs k d) (one k d within) (two k d within)

pub record Gathers (op : ℕ → ℕ → ℕ) : Type 0 where
  pub unit : (n : ℕ) → op 0 n ≡ n
  pub groups : (a b c : ℕ) → op a (op b c) ≡ op (op a b) c
  pub swaps : (a b c : ℕ) → op a (op b c) ≡ op b (op a c)

abbrev pub plus : ℕ → ℕ → ℕ
plus a b = a + b

abbrev pub most : ℕ → ℕ → ℕ
most a b = max a b

pub sums : Gathers plus
sums = record { unit = λ n. omega arith; groups = λ a b c. omega arith; swaps = λ a b c. omega arith }

pub mosts : Gathers most
mosts = record { unit = λ n. omega arith; groups = λ a b c. omega arith; swaps = λ a b c. omega arith }

abbrev pub gather : {X : Type 0} → (ℕ → ℕ → ℕ) → (X → ℕ) → List X → ℕ
gather op f [] = 0
gather op f (x ∷ xs) = op (f x) (gather op f xs)

module _ {X : Type 0} (op : ℕ → ℕ → ℕ) (is : Gathers op) (f : X → ℕ) where
  pub gather-append : (xs ys : List X) → gather op f (xs ++ ys) ≡ op (gather op f xs) (gather op f ys)
  gather-append [] ys = sym (is.unit (gather op f ys))
  gather-append (x ∷ xs) ys = ap (op (f x)) (gather-append xs ys) ∙ is.groups (f x) (gather op f xs) (gather op f ys)

  split_by : (b : Bool) (x : X) (xs kept left : List X) → gather op f xs ≡ op (gather op f kept) (gather op f left) →
      gather op f (x ∷ xs) ≡ op (gather op f (cond b (x ∷ kept) kept)) (gather op f (cond (not b) (x ∷ left) left))
  split_by true x xs kept left rest = ap (op (f x)) rest ∙ is.groups (f x) (gather op f kept) (gather op f left)
  split_by false x xs kept left rest = ap (op (f x)) rest ∙ is.swaps (f x) (gather op f kept) (gather op f left)

  -- those that pass a test, and the others
  pub gather-split : (p : X → Bool) (xs : List X) → gather op f xs ≡ op (gather op f (filter p xs))
      (gather op f (filter (λ x. not (p x)) xs))
  gather-split p [] = sym (is.unit 0)
  gather-split p (x ∷ xs) = split_by (p x) x xs (filter p xs) (filter (λ y. not (p y)) xs) (gather-split p xs)

  put_if : (b : Bool) (x y : X) (xs put : List X) → gather op f put ≡ op (f x) (gather op f xs) →
      gather op f (cond b (x ∷ (y ∷ xs)) (y ∷ put)) ≡ op (f x) (op (f y) (gather op f xs))
  put_if true x y xs put rest = refl
  put_if false x y xs put rest = ap (op (f y)) rest ∙ is.swaps (f y) (f x) (gather op f xs)

  gather-put : (key : X → ℕ) (x : X) (xs : List X) → gather op f (put_by key x xs) ≡ op (f x) (gather op f xs)
  gather-put key x [] = refl
  gather-put key x (y ∷ xs) = put_if (nat_le (key x) (key y)) x y xs (put_by key x xs) (gather-put key x xs)

  -- no order matters
  pub gather-sorted : (key : X → ℕ) (xs : List X) → gather op f (sorted_by key xs) ≡ gather op f xs
  gather-sorted key [] = refl
  gather-sorted key (x ∷ xs) = gather-put key x (sorted_by key xs) ∙ ap (op (f x)) (gather-sorted key xs)

pub gather-map : {X Y : Type 0} (op : ℕ → ℕ → ℕ) (f : Y → ℕ) (h : X → Y) (xs : List X) →
    gather op f (map h xs) ≡ gather op (λ x. f (h x)) xs
gather-map op f h [] = refl
gather-map op f h (x ∷ xs) = ap (op (f (h x))) (gather-map op f h xs)

kept_by : {X : Type 0} (op : ℕ → ℕ → ℕ) → Gathers op →
    (g : X → ℕ) (b : Bool) (n : ℕ) (x : X) (rest : ℕ) (kept : List X) → n ≡ cond b (g x) 0 → rest ≡ gather op g kept →
    op n rest ≡ gather op g (cond b (x ∷ kept) kept)
kept_by op is g true n x rest kept here there = ap (λ m. op m rest) here ∙ ap (op (g x)) there
kept_by op is g false n x rest kept here there = ap (λ m. op m rest) here ∙ is.unit rest ∙ there

-- those that count for nothing may be left out
pub gather-kept : {X : Type 0} (op : ℕ → ℕ → ℕ) → Gathers op → (f g : X → ℕ) (p : X → Bool) (xs : List X) →
    All (λ x. f x ≡ cond (p x) (g x) 0) xs → gather op f xs ≡ gather op g (filter p xs)
gather-kept op is f g p [] all = refl
gather-kept op is f g p (x ∷ xs) all =
    kept_by op is g (p x) (f x) x (gather op f xs) (filter p xs) (All-head (λ y. f y ≡ cond (p y) (g y) 0) x xs all)
    (gather-kept op is f g p xs (All-tail (λ y. f y ≡ cond (p y) (g y) 0) x xs all))

pub gather-same : {X : Type 0} (op : ℕ → ℕ → ℕ) (f g : X → ℕ) (xs : List X) → All (λ x. f x ≡ g x) xs →
    gather op f xs ≡ gather op g xs
gather-same op f g [] all = refl
gather-same op f g (x ∷ xs) all =
    ap (λ n. op n (gather op f xs)) (All-head (λ y. f y ≡ g y) x xs all)
    ∙ ap (op (g x)) (gather-same op f g xs (All-tail (λ y. f y ≡ g y) x xs all))

most_of : {X : Type 0} (f : X → ℕ) (b : Bool) (x : X) (now kept all : ℕ) (xs : List X) → (b ≡ false → f x ≤ now) →
    max now (gather most f xs) ≡ max now all → max now (gather most f (cond b (x ∷ xs) xs)) ≡ max now (max (f x) all)
most_of f true x now kept all xs less rest = omega (arith, rest)
most_of f false x now kept all xs less rest = let small : f x ≤ now = less refl in omega (arith, rest, small)

-- what is no more than this may be left out
pub most-kept : {X : Type 0} (f : X → ℕ) (p : X → Bool) (now : ℕ) (xs : List X) → ((x : X) → p x ≡ false → f x ≤ now) →
    max now (gather most f (filter p xs)) ≡ max now (gather most f xs)
most-kept f p now [] less = refl
most-kept f p now (x ∷ xs) less =
    most_of f (p x) x now 0 (gather most f xs) (filter p xs) (less x) (most-kept f p now xs less)

pub most-each : {X : Type 0} (f : X → ℕ) (xs : List X) (k : ℕ) (d : X) → k < length xs →
    f (get_or xs k d) ≤ gather most f xs
most-each f [] k d within = absurd (omega arith)
most-each f (x ∷ xs) zero d within = omega arith
most-each f (x ∷ xs) (suc k) d within = let rest = most-each f xs k d (omega arith) in omega (arith, rest)

-- a number for each of the first numbers
abbrev pub total : (ℕ → ℕ) → ℕ → ℕ
total f zero = 0
total f (suc n) = total f n + f n

pub total-same : (f g : ℕ → ℕ) (n : ℕ) → ((m : ℕ) → m < n → f m ≡ g m) → total f n ≡ total g n
total-same f g zero same = refl
total-same f g (suc n) same =
    let rest = total-same f g n (λ m less. same m (omega (arith, less))) in
    let here = same n (omega arith) in
    omega (arith, rest, here)

pub total-changed : (f g : ℕ → ℕ) (o n : ℕ) → o < n → ((m : ℕ) → m ≢ o → f m ≡ g m) → total g n + f o ≡ total f n + g o
total-changed f g o zero below same = absurd (omega arith)
total-changed f g o (suc n) below same = elim (cases_eq o n) [
  | inl here ↦
      let rest = total-same f g n (λ m less. same m (λ e. absurd (omega (arith, less, here, e)))) in
      let before = ap f here in
      let after = ap g here in
      omega (arith, rest, before, after)
  | inr there ↦
      let rest = total-changed f g o n (omega (arith, below, there)) same in
      let last = same n (λ e. there (sym e)) in
      omega (arith, rest, last)
]

pub total-ones : (n : ℕ) → total (λ m. 1) n ≡ n
total-ones zero = refl
total-ones (suc n) = let rest = total-ones n in omega (arith, rest)
