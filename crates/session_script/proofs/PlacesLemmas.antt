-- Places and their numbers, and how many lanes there are.
use Rattle.std.proofs.Common.{◌≡◌, ◌≢◌, ℕ, zero, suc, ◌+◌, ◌*◌, ◌<◌, ◌≤◌, ◌⊎◌, inl, inr, Bool, true, false, cond, ◌&&◌, List, [], ◌∷◌, ◌++◌, length, map, get_or, Some, None, refl, sym, ap, ◌∙◌, arith, length-append}
use Rattle.std.specs.Prelude.{nat_eq, nat_lt}
use Rattle.std.proofs.lemmas.Bool.{cases_lt, cases_eq, lt-ltb, le-ltb, eq-eqb, ne_eqb}
use Rattle.asio_types.specs.declared.code.Class.{Class}
use Rattle.asio_types.specs.declared.code.Class.TheVariants as class
use Rattle.asio_types.specs.declared.number.Lane.{Lane}
use Rattle.session_script.specs.declared.parts.PlacedAct as parts
use Rattle.session_script.specs.Script.{Place, Entry, same_class, same_place, numbers_in}
use Rattle.session_script.specs.Limits.{limits_of, most_acts}
use Rattle.session_script.specs.Lanes.{lanes_after, lane_in, caller_lane}
use Rattle.session_script.specs.Groups.{class_number, place_number, numbers_with}
use Rattle.session_script.specs.Layout.{HoldsPlaces}
use Rattle.session_script.specs.Outcome.{entries_of}

below_three : (class : Class) → class_number class < 3
below_three class.Ok = omega arith
below_three class.Abort = omega arith
below_three class.Other = omega arith

same_number : (a b : Class) → nat_eq (class_number b) (class_number a) ≡ same_class a b
same_number class.Ok class.Ok = refl
same_number class.Ok class.Abort = refl
same_number class.Ok class.Other = refl
same_number class.Abort class.Ok = refl
same_number class.Abort class.Abort = refl
same_number class.Abort class.Other = refl
same_number class.Other class.Ok = refl
same_number class.Other class.Abort = refl
same_number class.Other class.Other = refl

-- a place within so many acts
abbrev pub IsWithin : ℕ → Place → Type 0
IsWithin count None = Unit {0}
IsWithin count (Some at) = at.0 < count

by_class : (op m n : ℕ) → (m ≡ n) ⊎ (m ≡ n → ⊥) → nat_eq (1 + 3 * op + m) (1 + 3 * op + n) ≡ nat_eq m n
by_class op m n (inl e) = eq-eqb _ _ (omega arith) ∙ sym (eq-eqb m n e)
by_class op m n (inr ne) = ne_eqb (1 + 3 * op + m) (1 + 3 * op + n) (λ e. ne (omega (arith, e))) ∙ sym (ne_eqb m n ne)

by_op : (p q : ℕ) (a b : Class) → (p ≡ q) ⊎ (p ≡ q → ⊥) →
    nat_eq (1 + 3 * q + class_number b) (1 + 3 * p + class_number a) ≡ (nat_eq p q && same_class a b)
by_op p q a b (inl e) =
    let t : nat_eq p q ≡ true = eq-eqb p q e in
    let s : nat_eq (1 + 3 * q + class_number b) (1 + 3 * p + class_number a) ≡ same_class a b =
    rw e (by_class q (class_number b) (class_number a) (cases_eq _ _) ∙ same_number a b) in
    rw t s
by_op p q a b (inr ne) =
    let f : nat_eq p q ≡ false = ne_eqb p q ne in
    rw f (ne_eqb (1 + 3 * q + class_number b) (1 + 3 * p + class_number a)
    (λ e. ne (omega (arith, e, below_three a, below_three b))))

by_range : (count p q : ℕ) (a b : Class) → p < count → (q < count) ⊎ (count ≤ q) →
    nat_eq (cond (nat_lt q count) (1 + 3 * q + class_number b) (3 * count + 1)) (1 + 3 * p + class_number a)
    ≡ (nat_eq p q && same_class a b)
by_range count p q a b lt (inl within) = rw (lt-ltb q count within) (by_op p q a b (cases_eq p q))
by_range count p q a b lt (inr beyond) =
    let ne : p ≢ q = omega arith in
    rw (le-ltb q count beyond, ne_eqb p q ne)
    (ne_eqb (3 * count + 1) (1 + 3 * p + class_number a) (λ e. omega (arith, e, below_three a)))

place_test : (count : ℕ) (place other : Place) → IsWithin count place →
    nat_eq (place_number count other) (place_number count place) ≡ same_place place other
place_test count None None h = refl
place_test count None (Some q) h = elsewhere (nat_lt q.0 count)
  where
    elsewhere : (b : Bool) → nat_eq (cond b (1 + 3 * q.0 + class_number q.1) (3 * count + 1)) 0 ≡ false
    elsewhere true = ne_eqb (1 + 3 * q.0 + class_number q.1) 0 (omega arith)
    elsewhere false = ne_eqb (3 * count + 1) 0 (omega arith)
place_test count (Some p) None h = rw (lt-ltb p.0 count h) (ne_eqb 0 (1 + 3 * p.0 + class_number p.1) (omega arith))
place_test count (Some p) (Some q) h = rw (lt-ltb p.0 count h) (by_range count p.0 q.0 p.1 q.1 h (cases_lt q.0 count))

-- the acts of a place are those with its number
pub same_numbers : (count : ℕ) (place : Place) (n : ℕ) (acts : List parts.PlacedAct) → IsWithin count place →
    numbers_with (place_number count place) n (map (λ entry. place_number count entry.parent) acts)
    ≡ numbers_in place n (entries_of acts)
same_numbers count place n [] h = refl
same_numbers count place n (entry ∷ acts) h =
    rw (place_test count place entry.parent h, same_numbers count place (n + 1) acts h) refl

pub number_below : (count : ℕ) (place : Place) → place_number count place < 3 * count + 2
number_below count None = omega arith
number_below count (Some at) = by_test (cases_lt at.0 count)
  where
    by_test : (at.0 < count) ⊎ (count ≤ at.0) →
        cond (nat_lt at.0 count) (1 + 3 * at.0 + class_number at.1) (3 * count + 1) < 3 * count + 2
    by_test (inl within) = rw (lt-ltb at.0 count within) (omega (arith, below_three at.1))
    by_test (inr beyond) = rw (le-ltb at.0 count beyond) (omega arith)

pub numbers_below : (count i : ℕ) (acts : List parts.PlacedAct) →
    i < length (map (λ entry. place_number count entry.parent) acts) →
    get_or (map (λ entry. place_number count entry.parent) acts) i 0 < 3 * count + 2
numbers_below count i [] lt = absurd (omega arith)
numbers_below count zero (entry ∷ acts) lt = number_below count entry.parent
numbers_below count (suc i) (entry ∷ acts) lt = numbers_below count i acts (omega arith)

pub length-entries : (acts : List parts.PlacedAct) → length (entries_of acts) ≡ length acts
length-entries [] = refl
length-entries (entry ∷ acts) = ap suc (length-entries acts)

pub length-lanes_after : (lanes : List Lane) (entries : List Entry) →
    length (lanes_after lanes entries) ≡ length lanes + length entries
length-lanes_after lanes [] = omega arith
length-lanes_after lanes (entry ∷ entries) =
    omega (
      arith,
      length-lanes_after (lanes ++ lane_in (caller_lane lanes entry.parent) (length lanes) entry.act ∷ []) entries,
      length-append lanes (lane_in (caller_lane lanes entry.parent) (length lanes) entry.act ∷ []),
    )

-- the groups by the numbers of places hold the acts of the places
pub holds_places : (acts : List parts.PlacedAct) (groups : List (List ℕ)) → length groups ≡ 3 * length acts + 2 →
    ((key : ℕ) → key < 3 * length acts + 2 →
    get_or groups key [] ≡ numbers_with key 0 (map (λ entry. place_number (length acts) entry.parent) acts)) →
    HoldsPlaces (entries_of acts) groups
holds_places acts groups count are = record {
  count = rw (length-entries acts) count;
  opening = are 0 (omega arith) ∙ same_numbers (length acts) None 0 acts tt;
  branches = λ op cl lt.
      let lt' : op < length acts = omega (arith, length-entries acts) in
      let number : place_number (length acts) (Some (op, cl)) ≡ 1 + 3 * op + class_number cl =
      rw (lt-ltb op (length acts) lt') refl in
      are (1 + 3 * op + class_number cl) (omega (arith, below_three cl))
      ∙ rw (← number) (same_numbers (length acts) (Some (op, cl)) 0 acts lt');
}

either : (first : Bool) → cond first 1024 most_acts ≤ most_acts
either true = omega arith
either false = omega arith

pub acts_allowed : (version : ℕ) → (limits_of version).acts ≤ most_acts
unfolding limits_of
acts_allowed version = either (nat_eq version 1)
