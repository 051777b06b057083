-- What the seats did, after one more step.
use Rattle.std.proofs.Common.{◌≡◌, ◌≢◌, ℕ, zero, suc, ◌<◌, ◌≤◌, cond, List, [], ◌∷◌, length, get_or, set, sym, refl, ap, ◌∙◌, ⊎_elim, arith, Some, None, length-set, get_or-set_other, get_or-set_same, eq-eqb, ne_eqb}
use Rattle.std.proofs.lemmas.Bool.{cases_eq}
use mathlib.Core.Option.{some}
use lib.ListN.{get_elem?}
use Rattle.atomic_table.proofs.Lists.{at_set}
use Rattle.turn_table.specs.declared.place.TurnView.{TurnView}
use Rattle.turn_table.specs.Numbers.{has}
use Rattle.turn_table.specs.Past.{Deed, taking, giving, holder_in, IsPast, misses_in, IsPastOf}

-- one step further, on the lane k: its word is x then, and where that is 1 the seat `who` has the turn
pub record Next (k x who : ℕ) (past after : List Deed) : Type 0 where
  pub right : IsPast after
  pub held : x ≡ 1 → holder_in after k ≡ Some who
  pub free : x ≡ 0 → holder_in after k ≡ None
  pub others : (j : ℕ) → j ≢ k → holder_in after j ≡ holder_in past j
  pub misses : (seat : ℕ) → misses_in after seat ≡ misses_in past seat

pub next_taking : (k seat : ℕ) (past : List Deed) → IsPast past → holder_in past k ≡ None →
    Next k 1 seat past (taking k seat ∷ past)
next_taking k seat past right free = record {
  right = (free, right);
  held = λ _. ap (λ b. cond b (Some seat) (holder_in past k)) (eq-eqb k k refl);
  free = λ e. absurd (omega arith);
  others = λ j other. ap (λ b. cond b (Some seat) (holder_in past j)) (ne_eqb j k other);
  misses = λ _. refl;
}

pub next_giving : (k seat : ℕ) (past : List Deed) → IsPast past → holder_in past k ≡ Some seat →
    Next k 0 seat past (giving k seat ∷ past)
next_giving k seat past right held = record {
  right = (held, right);
  held = λ e. absurd (omega arith);
  free = λ _. ap (λ b. cond b None (holder_in past k)) (eq-eqb k k refl);
  others = λ j other. ap (λ b. cond b None (holder_in past j)) (ne_eqb j k other);
  misses = λ _. refl;
}

pub next_same : (k x seat : ℕ) (past : List Deed) → x ≡ 1 → IsPast past → holder_in past k ≡ Some seat →
    Next k x seat past past
next_same k x seat past is right held = record {
  right = right;
  held = λ _. held;
  free = λ e. absurd (omega arith);
  others = λ _ _. refl;
  misses = λ _. refl;
}

pub came_further : (lanes k x who me : ℕ) (holder after : ℕ → ℕ) (words : List ℕ) (views : List TurnView)
    (v w : TurnView) (past next : List Deed) → IsPastOf lanes holder words views past → Next k x who past next →
    k < length words → get_elem? views me ≡ some v → w.numbers ≡ v.numbers → w.misses ≡ v.misses → after k ≡ who →
    ((j : ℕ) → j ≢ k → after j ≡ holder j) → IsPastOf lanes after (set words k x) (set views me w) next
came_further lanes k x who me holder after words views v w past next was step inside at numbers misses here there = record {
  right = step.right;
  held = λ j l e. ⊎_elim
      (λ (q : j ≡ k).
      ap (holder_in next) q
      ∙ (step.held (sym (get_or-set_same words k x 0 inside) ∙ (ap (λ i. get_or (set words k x) i 0) (sym q) ∙ e))
      ∙ ap Some (sym (ap after q ∙ here))))
      (λ other.
      step.others j other
      ∙ (was.held j l (sym (get_or-set_other words k j x 0 other) ∙ e) ∙ ap Some (sym (there j other))))
      (cases_eq j k);
  free = λ j l e. ⊎_elim
      (λ (q : j ≡ k).
      ap (holder_in next) q
      ∙ step.free (sym (get_or-set_same words k x 0 inside) ∙ (ap (λ i. get_or (set words k x) i 0) (sym q) ∙ e)))
      (λ other. step.others j other ∙ was.free j l (sym (get_or-set_other words k j x 0 other) ∙ e)) (cases_eq j k);
  misses = λ seat n u there h. ⊎_elim
      (λ (p : (seat ≡ me) × (w ≡ u)).
      ap (λ (z : TurnView). z.misses) (sym p.1)
      ∙ (misses
      ∙ (was.misses me n v at (ap (has n) (sym numbers) ∙ (ap (λ (z : TurnView). has n z.numbers) p.1 ∙ h))
      ∙ (ap (misses_in past) (sym p.0) ∙ sym (step.misses seat)))))
      (λ p. was.misses seat n u p.1 h ∙ sym (step.misses seat)) (at_set views me seat w u there);
  unborn = λ seat beyond. step.misses seat ∙ was.unborn seat (let e = length-set views me w in omega arith);
}

-- the first seat took the turns of all lanes below one
abbrev pub takings : ℕ → List Deed
takings zero = []
takings (suc n) = taking n 0 ∷ takings n

pub untaken : (n lane : ℕ) → n ≤ lane → holder_in (takings n) lane ≡ None
untaken zero lane le = refl
untaken (suc n) lane le =
    ap (λ b. cond b (Some 0) (holder_in (takings n) lane)) (ne_eqb lane n (λ e. omega arith))
    ∙ untaken n lane (omega arith)

pub taken_first : (n lane : ℕ) → lane < n → holder_in (takings n) lane ≡ Some 0
taken_first zero lane less = absurd (omega arith)
taken_first (suc n) lane less = ⊎_elim
    (λ e. ap (λ b. cond b (Some 0) (holder_in (takings n) lane)) (eq-eqb lane n e))
    (λ other.
    ap (λ b. cond b (Some 0) (holder_in (takings n) lane)) (ne_eqb lane n other) ∙ taken_first n lane (omega arith))
    (cases_eq lane n)

pub takings_right : (n : ℕ) → IsPast (takings n)
takings_right zero = tt
takings_right (suc n) = (untaken n n (omega arith), takings_right n)

pub takings_miss : (n seat : ℕ) → misses_in (takings n) seat ≡ []
takings_miss zero seat = refl
takings_miss (suc n) seat = takings_miss n seat
