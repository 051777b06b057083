-- Counting what is taken.
use Rattle.std.proofs.Common.{◌≡◌, ℕ, suc, ◌+◌, ◌-◌, ◌≤◌, List, [], ◌∷◌, length, refl, ap, sym, ◌∙◌, inl, inr, ⊎_elim, arith}
use Rattle.std.proofs.lemmas.Bool.{eqb-true, eq-eqb, ne_eqb, cases_eq, cases_Bool, and_parts, or_parts, lt-ltb}
use Rattle.std.specs.Prelude.{Bool, true, false, ◌==◌, ◌||◌, ◌&&◌, ◌⊎◌, if◌then◌else◌, nat_lt, Option, Some, None, SomeIff}
use Rattle.std.specs.List.{list_any}
use Rattle.run_rules.specs.declared.frame.Frame.{Frame}
use Rattle.run_rules.specs.declared.frame.Frame.TheVariants.{Execution, Outside}
use Rattle.run_rules.specs.declared.taking.Resource.{Resource}
use Rattle.run_rules.specs.declared.taking.Taking.{Taking}
use Rattle.run_rules.specs.Stacks.{same_frame}
use Rattle.run_rules.specs.Takings.{same_resource, same_taking, without}
use Rattle.run_rules.proofs.TakingLemmas.{same_resource-is}
use Rattle.run_check.specs.Takings.{times, is_of, is_in, IsAlone}

one_if : Bool → ℕ
one_if b = if b then 1 else 0

pub same_frame-is : (one other : Frame) → same_frame one other ≡ true → one ≡ other
same_frame-is (Execution op) (Execution other) is = ap Execution (eqb-true op other is)
same_frame-is (Outside thread) (Outside other) is = ap Outside (eqb-true thread other is)
same_frame-is (Execution op) (Outside thread) is = cc
same_frame-is (Outside thread) (Execution op) is = cc

pub same_taking-is : (one other : Taking) → same_taking one other ≡ true → one ≡ other
same_taking-is one other is =
    let outer = and_parts (one.thread == other.thread)
    (same_frame one.frame other.frame && same_resource one.resource other.resource) is in
    let inner = and_parts (same_frame one.frame other.frame) (same_resource one.resource other.resource) outer.1 in
    let threads : one.thread ≡ other.thread = eqb-true one.thread other.thread outer.0 in
    let frames : one.frame ≡ other.frame = same_frame-is one.frame other.frame inner.0 in
    let resources : one.resource ≡ other.resource = same_resource-is one.resource other.resource inner.1 in
    ap (λ (t : ℕ). record { thread = t; frame = one.frame; resource = one.resource }) threads
    ∙ ap (λ (f : Frame). record { thread = other.thread; frame = f; resource = one.resource }) frames
    ∙ ap (λ (r : Resource). record { thread = other.thread; frame = other.frame; resource = r }) resources

-- some pass exactly where their number is above zero
pub any_from_times : (test : Taking → Bool) (all : List Taking) → nat_lt 0 (times test all) ≡ list_any test all
any_from_times test [] = refl
any_from_times test (one ∷ others) = by_test (test one) (times test others) (list_any test others) (any_from_times test others)
  where
    by_test : (b : Bool) (n : ℕ) (rest : Bool) → nat_lt 0 n ≡ rest → nat_lt 0 ((if b then 1 else 0) + n) ≡ (b || rest)
    by_test true n rest e = lt-ltb 0 (1 + n) (omega arith)
    by_test false n rest e = let same : 0 + n ≡ n = omega arith in ap (nat_lt 0) same ∙ e

-- what is taken away was counted once
pub times-without : (test : Taking → Bool) (gone : Taking) (all : List Taking) → is_in gone all ≡ true
    → (if test gone then 1 else 0) + times test (without gone all) ≡ times test all
times-without test gone [] is = cc
times-without test gone (one ∷ others) is =
    ⊎_elim
    (λ found. let same : one ≡ gone = same_taking-is one gone found in
    rw found (ap (λ (t : Taking). (if test t then 1 else 0) + times test others) (sym same)))
    (λ passed. let later : is_in gone others ≡ true = left_false (same_taking one gone) (is_in gone others) passed is in
    let rest : (if test gone then 1 else 0) + times test (without gone others) ≡ times test others =
    times-without test gone others later in
    rw passed (swapped (if test gone then 1 else 0) (if test one then 1 else 0) (times test (without gone others))
    (times test others) rest))
    (cases_Bool (same_taking one gone))
  where
    left_false : (x y : Bool) → x ≡ false → (x || y) ≡ true → y ≡ true
    left_false true y e is = cc
    left_false false y e is = is

    swapped : (g o left all : ℕ) → g + left ≡ all → g + (o + left) ≡ o + all
    swapped g o left all e = omega arith

pub times-less : (test : Taking → Bool) (gone : Taking) (all : List Taking) → is_in gone all ≡ true
    → times test all - (if test gone then 1 else 0) ≡ times test (without gone all)
times-less test gone all is = let sum : (if test gone then 1 else 0) + times test (without gone all) ≡ times test all =
    times-without test gone all is in minus (if test gone then 1 else 0) (times test (without gone all)) (times test all) sum
  where
    minus : (g left all : ℕ) → g + left ≡ all → all - g ≡ left
    minus g left all e = omega arith

-- those of one thread are at most all, and less where another thread has one
pub times-most : (thread : ℕ) (resource : Resource) (all : List Taking)
    → times (is_of thread resource) all ≤ times (λ (one : Taking). same_resource one.resource resource) all
times-most thread resource [] = omega arith
times-most thread resource (one ∷ others) =
    by_tests (one.thread == thread) (same_resource one.resource resource) (times (is_of thread resource) others)
    (times (λ (e : Taking). same_resource e.resource resource) others) (times-most thread resource others)
  where
    by_tests : (t r : Bool) (m n : ℕ) → m ≤ n → (if t && r then 1 else 0) + m ≤ (if r then 1 else 0) + n
    by_tests true true m n h = omega arith
    by_tests true false m n h = omega arith
    by_tests false true m n h = omega arith
    by_tests false false m n h = omega arith

pub alone_from_times : (thread : ℕ) (resource : Resource) (all : List Taking)
    → times (λ (one : Taking). same_resource one.resource resource) all ≡ times (is_of thread resource) all
    → IsAlone thread resource all
alone_from_times thread resource [] same other apart = refl
alone_from_times thread resource (one ∷ others) same other apart =
    let least : times (is_of thread resource) others ≤ times (λ (e : Taking). same_resource e.resource resource) others =
    times-most thread resource others in
    let parts = both (one.thread == thread) (same_resource one.resource resource) (times (is_of thread resource) others)
    (times (λ (e : Taking). same_resource e.resource resource) others) least same in
    let rest : list_any (is_of other resource) others ≡ false = alone_from_times thread resource others parts.0 other apart in
    let here : (one.thread == other && same_resource one.resource resource) ≡ false =
    ⊎_elim (λ (none : same_resource one.resource resource ≡ false). rw none (and_false (one.thread == other)))
    (λ (mine : (one.thread == thread) ≡ true). let e : one.thread ≡ thread = eqb-true one.thread thread mine in
    let ne : (one.thread == other) ≡ false = ne_eqb one.thread other (λ o. apart (sym o ∙ e)) in rw ne refl) parts.1 in
    rw (here, rest) refl
  where
    and_false : (b : Bool) → (b && false) ≡ false
    and_false true = refl
    and_false false = refl

    both : (t r : Bool) (m n : ℕ) → m ≤ n → (if r then 1 else 0) + n ≡ (if t && r then 1 else 0) + m
        → (n ≡ m) × ((r ≡ false) ⊎ (t ≡ true))
    both true true m n h e = (omega arith, inr refl)
    both true false m n h e = (omega arith, inl refl)
    both false true m n h e = absurd (omega arith)
    both false false m n h e = (omega arith, inl refl)

pub times_from_alone : (thread : ℕ) (resource : Resource) (all : List Taking) → IsAlone thread resource all
    → times (λ (one : Taking). same_resource one.resource resource) all ≡ times (is_of thread resource) all
times_from_alone thread resource [] alone = refl
times_from_alone thread resource (one ∷ others) alone =
    let rest : times (λ (e : Taking). same_resource e.resource resource) others ≡ times (is_of thread resource) others =
    times_from_alone thread resource others (λ other apart.
    (or_parts (is_of other resource one) (list_any (is_of other resource) others) (alone other apart)).1) in
    ⊎_elim
    (λ (e : one.thread ≡ thread). let mine : (one.thread == thread) ≡ true = eq-eqb one.thread thread e in rw (mine, rest) refl)
    (λ ne. let here : (one.thread == one.thread && same_resource one.resource resource) ≡ false =
    (or_parts (is_of one.thread resource one) (list_any (is_of one.thread resource) others) (alone one.thread ne)).0 in
    let own : (one.thread == one.thread) ≡ true = eq-eqb one.thread one.thread refl in
    let none : same_resource one.resource resource ≡ false =
    true_left (one.thread == one.thread) (same_resource one.resource resource) own here in
    let apart : (one.thread == thread) ≡ false = ne_eqb one.thread thread ne in
    rw (none, apart, rest) refl)
    (cases_eq one.thread thread)
  where
    true_left : (x y : Bool) → x ≡ true → (x && y) ≡ false → y ≡ false
    true_left true y e is = is
    true_left false y e is = cc

-- how much is left without one that is there
pub length-without : (gone : Taking) (all : List Taking) → is_in gone all ≡ true → length all - 1 ≡ length (without gone all)
length-without gone all is = ap (λ (n : ℕ). n - 1) (length-times all) ∙ times-less (λ (one : Taking). true) gone all is
    ∙ sym (length-times (without gone all))
  where
    length-times : (takings : List Taking) → length takings ≡ times (λ (one : Taking). true) takings
    length-times [] = refl
    length-times (one ∷ others) = let rest : length others ≡ times (λ (t : Taking). true) others = length-times others in
        omega arith

-- a sum that fits is what it is
pub sum_is : (P : Type 0) (o : Option ℕ) (v x : ℕ) → SomeIff o P v → o ≡ Some x → x ≡ v
sum_is P None v x some is = cc
sum_is P (Some y) v x some is = sym (some_is y x is) ∙ some.1
  where
    some_is : (a b : ℕ) → Some a ≡ Some b → a ≡ b
    some_is a b e = cc

-- one more, where the sum fits
pub one_more_of : (P : Type 0) (all : List Taking) (number sum : ℕ) (o : Option ℕ) → number ≡ length all
    → SomeIff o P (number + 1) → o ≡ Some sum → sum ≡ suc (length all)
one_more_of P all number sum o same fits is = sum_is P o (number + 1) sum fits is
    ∙ (let e : number + 1 ≡ suc (length all) = omega arith in e)
