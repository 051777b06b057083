-- Acts in text order, cut where a further place begins.
use Rattle.std.proofs.Common.{◌≡◌, ℕ, zero, suc, ◌+◌, ◌<◌, ◌≤◌, ◌⊎◌, inl, inr, Bool, true, false, not, ◌&&◌, ◌==◌, Some, None, refl, sym, ap, subst, ◌∙◌, arith}
use Rattle.std.specs.Prelude.{nat_lt}
use Rattle.std.proofs.lemmas.Bool.Decides.{nat_tests}
use Rattle.std.proofs.lemmas.Bool.{eq-eqb, eqb-true}
use Rattle.asio_types.specs.declared.code.Class.{Class}
use Rattle.asio_types.specs.declared.code.Class.TheVariants as class
use Rattle.session_script.specs.Groups.{class_number}
use Rattle.session_script.specs.Script.{Place, ScriptModel, same_class, same_place, parent_of}
use Rattle.session_script.specs.Writable.{StandsUnder, IsInTextOrder}
use Rattle.session_script.proofs.GatheringLemmas.{IsEarlier, same_place-self}

pub same_or_above : (a b : ℕ) → a ≤ b → (b ≡ a) ⊎ (a < b)
same_or_above a b le = by_test (nat_lt a b) refl
  where
    by_test : (above : Bool) → nat_lt a b ≡ above → (b ≡ a) ⊎ (a < b)
    by_test true test = inr (grind (arith, nat_tests))
    by_test false test = inl (grind (arith, nat_tests))

-- the first number from one on that passes a test, or the end
pub record First (test : ℕ → Bool) (low high : ℕ) : Type 0 where
  pub at : ℕ
  pub above : low ≤ at
  pub within : at ≤ high
  pub before : (n : ℕ) → low ≤ n → n < at → test n ≡ false
  pub here : at < high → test at ≡ true

first_or_later : (test : ℕ → Bool) (low high : ℕ) → low < high → First test (suc low) high → First test low high
first_or_later test low high lt later = by_test (test low) refl
  where
    fails : test low ≡ false → (n : ℕ) → low ≤ n → n < later.at → test n ≡ false
    fails is n le lt =
        elim (same_or_above low n le) [ inl same ↦ ap test same ∙ is | inr above ↦ later.before n (omega arith) lt ]

    by_test : (passes : Bool) → test low ≡ passes → First test low high
    by_test true is = record {
      at = low;
      above = omega arith;
      within = omega arith;
      before = λ n le lt. absurd (omega arith);
      here = λ lt. is;
    }
    by_test false is = record {
      at = later.at;
      above = omega (arith, later.above);
      within = later.within;
      before = fails is;
      here = later.here;
    }

pub first_from : (test : ℕ → Bool) (count low high : ℕ) → low + count ≡ high → First test low high
first_from test zero low high e = record {
  at = low;
  above = omega arith;
  within = omega arith;
  before = λ n le lt. absurd (omega arith);
  here = λ lt. absurd (omega arith);
}
first_from test (suc count) low high e =
    first_or_later test low high (omega arith) (first_from test count (suc low) high (omega arith))

same_class-true : (a b : Class) → same_class a b ≡ true → a ≡ b
same_class-true class.Ok class.Ok is = refl
same_class-true class.Abort class.Abort is = refl
same_class-true class.Other class.Other is = refl
same_class-true class.Ok class.Abort is = absurd (cc is)
same_class-true class.Ok class.Other is = absurd (cc is)
same_class-true class.Abort class.Ok is = absurd (cc is)
same_class-true class.Abort class.Other is = absurd (cc is)
same_class-true class.Other class.Ok is = absurd (cc is)
same_class-true class.Other class.Abort is = absurd (cc is)

both_true : (a b : Bool) → (a && b) ≡ true → (a ≡ true) × (b ≡ true)
both_true true true h = (refl, refl)
both_true true false h = (refl, h)
both_true false b h = (h, absurd (cc h))

pub same_place-true : (p q : Place) → same_place p q ≡ true → q ≡ p
same_place-true None None is = refl
same_place-true None (Some q) is = absurd (cc is)
same_place-true (Some p) None is = absurd (cc is)
same_place-true (Some p) (Some q) is =
    let parts = both_true (p.0 == q.0) (same_class p.1 q.1) is in
    let number : p.0 ≡ q.0 = eqb-true p.0 q.0 parts.0 in
    let branch : p.1 ≡ q.1 = same_class-true p.1 q.1 parts.1 in
    ap (λ n. Some (n, q.1)) (sym number) ∙ ap (λ c. Some (p.0, c)) (sym branch)

pub same_place-false : (p q : Place) → same_place p q ≡ false → q ≡ p → ⊥
same_place-false p q is same = cc (sym (same_place-self p) ∙ ap (same_place p) (sym same) ∙ is)

-- a branch of an operation other than the first
abbrev pub is_further : ℕ → Place → Bool
is_further op None = false
is_further op (Some at) = (at.0 == op) && not (same_class at.1 class.Ok)

not_first : (branch : Class) → not (same_class branch class.Ok) ≡ true → 1 ≤ class_number branch
not_first class.Ok is = absurd (cc is)
not_first class.Abort is = omega arith
not_first class.Other is = omega arith

pub further_is : (op : ℕ) (place : Place) → is_further op place ≡ true →
    (branch : Class) × (place ≡ Some (op, branch)) × (1 ≤ class_number branch)
further_is op None is = absurd (cc is)
further_is op (Some at) is =
    let parts = both_true (at.0 == op) (not (same_class at.1 class.Ok)) is in
    (at.1, ap (λ n. Some (n, at.1)) (eqb-true at.0 op parts.0), not_first at.1 parts.1)

-- which branch it is
pub first_only : (op : ℕ) (branch : Class) → is_further op (Some (op, branch)) ≡ false → branch ≡ class.Ok
first_only op class.Ok is = refl
first_only op class.Abort is = absurd (cc (rw (eq-eqb op op refl) at is))
first_only op class.Other is = absurd (cc (rw (eq-eqb op op refl) at is))

pub second_only : (op : ℕ) (branch : Class) → 1 ≤ class_number branch →
    same_place (Some (op, class.Other)) (Some (op, branch)) ≡ false → branch ≡ class.Abort
second_only op class.Ok some is = absurd (omega arith)
second_only op class.Abort some is = refl
second_only op class.Other some is = absurd (same_place-false (Some (op, class.Other)) (Some (op, class.Other)) is refl)

pub third_only : (branch : Class) → 2 ≤ class_number branch → branch ≡ class.Other
third_only class.Ok some = absurd (omega arith)
third_only class.Abort some = absurd (omega arith)
third_only class.Other some = refl

number_of_branch : Place → ℕ
number_of_branch None = 0
number_of_branch (Some at) = class_number at.1

same_number : (place : Place) (op : ℕ) (first second : Class) → place ≡ Some (op, first) → place ≡ Some (op, second) →
    class_number first ≤ class_number second
unfolding number_of_branch
same_number place op first second is is' = omega (arith, ap number_of_branch is, ap number_of_branch is')

module _ (script : ScriptModel) (order : IsInTextOrder script) where
  -- behind an act of an earlier place, what stands under an act from a number on stands under one from that act on
  pub under_later : (low at n : ℕ) → IsEarlier low (parent_of script at) → at ≤ n →
      StandsUnder low (parent_of script n) → StandsUnder at (parent_of script n)
  under_later low at n earlier le under = by_place (parent_of script n) refl under
    where
      no_earlier : (op : ℕ) (here : Place) → low ≤ op → IsEarlier low here → StandsUnder op here → ⊥
      no_earlier op None above earlier under = under
      no_earlier op (Some there) above earlier under = omega arith

      by_place : (place : Place) → parent_of script n ≡ place → StandsUnder low place → StandsUnder at place
      by_place None is under = under
      by_place (Some there) is under = by_test (nat_lt there.0 at) refl
        where
          by_test : (less : Bool) → nat_lt there.0 at ≡ less → at ≤ there.0
          by_test false test = grind (arith, nat_tests)
          by_test true test =
              let less : there.0 < at = grind (arith, nat_tests) in
              elim (same_or_above at n le) [
                | inl same ↦
                    let here : IsEarlier low (Some there) =
                    subst (IsEarlier low) (ap (parent_of script) (sym same) ∙ is) earlier in
                    absurd (omega arith)
                | inr above ↦
                    absurd (no_earlier there.0 (parent_of script at) under earlier
                    (order.under there.0 at n there.1 less above is))
              ]

  -- later acts of one operation stand in branches that are no earlier
  pub branch_later : (op at n : ℕ) (first second : Class) → at ≤ n → parent_of script at ≡ Some (op, first) →
      parent_of script n ≡ Some (op, second) → class_number first ≤ class_number second
  branch_later op at n first second le is is' =
      elim (same_or_above at n le) [
        | inl same ↦ same_number (parent_of script n) op first second (ap (parent_of script) same ∙ is) is'
        | inr above ↦ order.branches op at n first second above is is'
      ]
