-- What is known of a number, after a change of what is known.
use Rattle.std.proofs.Common.{◌≡◌, ◌≢◌, ◌⊎◌, inl, inr, ⊎_elim, ℕ, zero, suc, ◌<◌, true, List, [], ◌∷◌, ◌++◌, length, eq-eqb, ne_eqb, sym, refl, ap, subst, arith}
use Rattle.std.proofs.lemmas.List.{get_or-set_same, get_or-set_other}
use mathlib.Core.Option.{some, some-injective, some-ne-none}
use mathlib.Core.Logic.{dite}
use lib.ListN.{get_elem?}
use native.Mathlib.Decide.{ℕ_discrete}
use Rattle.lane_clock.specs.declared.step.ClockStep.{ClockStep}
use Rattle.lane_clock.specs.declared.step.Known.{Known}
use Rattle.lane_clock.specs.Knowledge.{unknown, known_at, longer_by, stepped_at}
use Rattle.lane_clock.specs.History.{ClockEvent, steps_under}

module _ {A : Type 0} where
  pub at_within : (xs : List A) (i : ℕ) (x : A) → get_elem? xs i ≡ some x → i < length xs
  at_within [] i x e = absurd (some-ne-none x (sym e))
  at_within (y ∷ xs) zero x e = omega arith
  at_within (y ∷ xs) (suc i) x e = let h : i < length xs = at_within xs i x e in omega arith

  -- an element of a longer list is one of the list, or the last
  pub at_push : (xs : List A) (a b : A) (i : ℕ) → get_elem? (xs ++ a ∷ []) i ≡ some b →
      (get_elem? xs i ≡ some b) ⊎ ((i ≡ length xs) × (a ≡ b))
  at_push [] a b zero e = inr (refl, some-injective a b e)
  at_push [] a b (suc i) e = absurd (some-ne-none b (sym e))
  at_push (x ∷ xs) a b zero e = inl e
  at_push (x ∷ xs) a b (suc i) e = ⊎_elim (λ h. inl h) (λ h. inr (ap suc h.0, h.1)) (at_push xs a b i e)

-- what is known beyond the end isn't one's own
pub mine_within : (ks : List Known) (n : ℕ) → (known_at ks n).mine ≡ true → n < length ks
mine_within [] n h = absurd (cc)
mine_within (k ∷ ks) zero h = omega arith
mine_within (k ∷ ks) (suc n) h = let i : n < length ks = mine_within ks n h in omega arith

pub stepped_here : (ks : List Known) (n : ℕ) (st : ClockStep) → n < length ks →
    known_at (stepped_at ks n st) n ≡ longer_by (known_at ks n) st
stepped_here ks n st i = get_or-set_same ks n (longer_by (known_at ks n) st) unknown i

pub stepped_other : (ks : List Known) (n m : ℕ) (st : ClockStep) → m ≢ n →
    known_at (stepped_at ks n st) m ≡ known_at ks m
stepped_other ks n m st ne = get_or-set_other ks n m (longer_by (known_at ks n) st) unknown ne

-- one more step leaves what is one's own
pub stepped_mine : (ks : List Known) (n m : ℕ) (st : ClockStep) → n < length ks →
    (known_at (stepped_at ks n st) m).mine ≡ (known_at ks m).mine
stepped_mine ks n m st i = dite (ℕ_discrete m n)
    (λ (e : m ≡ n).
    subst (λ (x : ℕ). (known_at (stepped_at ks n st) x).mine ≡ (known_at ks x).mine) (sym e)
    (ap (λ (k : Known). k.mine) (stepped_here ks n st i)))
    (λ ne. ap (λ (k : Known). k.mine) (stepped_other ks n m st ne))

abbrev pub event : ℕ → ClockStep → ClockEvent
event n st = record { by = n; step = st }

pub under_same : (es : List ClockEvent) (n : ℕ) (st : ClockStep) →
    steps_under n (event n st ∷ es) ≡ steps_under n es ++ st ∷ []
under_same es n st = rw (eq-eqb n n refl) refl

pub under_other : (es : List ClockEvent) (n m : ℕ) (st : ClockStep) → n ≢ m →
    steps_under n (event m st ∷ es) ≡ steps_under n es
under_other es n m st ne = rw (ne_eqb n m ne) refl
