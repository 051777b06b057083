-- What a tournament keeps as a node is played again, and that the first node has the first of all.
use Rattle.std.proofs.Common.{◌≡◌, ◌≢◌, ℕ, zero, suc, ◌+◌, ◌-◌, ◌*◌, ◌/◌, ◌<◌, ◌≤◌, Bool, true, false, List, length, get_or, set, ap, sym, refl, subst, ◌∙◌, ⊎_elim, inl, inr, arith}
use Rattle.std.specs.Prelude.{◌==◌, ◌^◌, ◌⊎◌, Option, Some, None, nat_lt, if◌then◌else◌, replicate}
use Rattle.std.specs.List.{slice_index_or}
use Rattle.std.proofs.lemmas.Bool.{cases_eq, cases_lt, le-ltb, lt-ltb, true≢false}
use Rattle.std.proofs.lemmas.Bool.Decides.{nat_tests}
use Rattle.std.proofs.lemmas.List.{get_or-replicate, get_or-set_other, get_or-set_same, get_or_past, length-replicate, length-set}
use Rattle.io_timers.specs.declared.first.First.{First}
use Rattle.io_timers.specs.Tournament.{IsFirst, IsNoLater, IsNode, IsTournament, is_before, node_at, winner}

never : (a : First) → is_before a a ≡ false
never a = grind (arith, nat_tests)

one_way : (a b : First) → is_before b a ≡ true → is_before a b ≡ false
one_way a b h = grind (arith, nat_tests)

chain : (a b c : First) → is_before b a ≡ false → is_before c b ≡ false → is_before c a ≡ false
chain a b c h k = grind (arith, nat_tests)

pub no_later-refl : (a : Option First) → IsNoLater a a
no_later-refl None = tt
no_later-refl (Some a) = never a

no_later-trans : (a b c : Option First) → IsNoLater a b → IsNoLater b c → IsNoLater a c
no_later-trans a b None h k = tt
no_later-trans a None (Some c) h k = absurd k
no_later-trans None (Some b) (Some c) h k = absurd h
no_later-trans (Some a) (Some b) (Some c) h k = chain a b c h k

wins_left : (a b : First) (t : Bool) → is_before b a ≡ t → IsNoLater (if t then Some b else Some a) (Some a)
wins_left a b true is = one_way a b is
wins_left a b false is = never a

wins_right : (a b : First) (t : Bool) → is_before b a ≡ t → IsNoLater (if t then Some b else Some a) (Some b)
wins_right a b true is = never b
wins_right a b false is = is

winner-left : (a b : Option First) → IsNoLater (winner a b) a
winner-left None b = tt
winner-left (Some a) None = never a
winner-left (Some a) (Some b) = wins_left a b (is_before b a) refl

winner-right : (a b : Option First) → IsNoLater (winner a b) b
winner-right None b = no_later-refl b
winner-right (Some a) None = tt
winner-right (Some a) (Some b) = wins_right a b (is_before b a) refl

one_of : (a b : First) (t : Bool) →
    ((if t then Some b else Some a) ≡ Some a) ⊎ ((if t then Some b else Some a) ≡ Some b)
one_of a b true = inr refl
one_of a b false = inl refl

winner-one : (a b : Option First) → (winner a b ≡ a) ⊎ (winner a b ≡ b)
winner-one None b = inr refl
winner-one (Some a) None = inl refl
winner-one (Some a) (Some b) = one_of a b (is_before b a)

-- the node at `at` is written
module _ (inner leaves : List (Option First)) (at : ℕ) (v : Option First) where
  node_same : (m : ℕ) → m ≢ at → node_at (set inner at v) leaves m ≡ node_at inner leaves m
  node_same m ne =
      ap (λ long. if nat_lt m long then get_or (set inner at v) m None else get_or leaves (m - long) None)
      (length-set inner at v)
      ∙ ap (λ x. if nat_lt m (length inner) then x else get_or leaves (m - length inner) None)
      (get_or-set_other inner at m v None ne)

  children_same : (n : ℕ) → n * 2 ≢ at → n * 2 + 1 ≢ at →
      winner (node_at inner leaves (n * 2)) (node_at inner leaves (n * 2 + 1))
      ≡ winner (node_at (set inner at v) leaves (n * 2)) (node_at (set inner at v) leaves (n * 2 + 1))
  children_same n left right =
      ap (λ x. winner x (node_at inner leaves (n * 2 + 1))) (sym (node_same (n * 2) left))
      ∙ ap (λ x. winner (node_at (set inner at v) leaves (n * 2)) x) (sym (node_same (n * 2 + 1) right))

  pub played : 0 < at → at < length inner →
      v ≡ winner (node_at inner leaves (at * 2)) (node_at inner leaves (at * 2 + 1)) →
      ((n : ℕ) → 0 < n → n < length inner → n ≢ at → IsNode inner leaves n) →
      (n : ℕ) → 0 < n → n < length (set inner at v) → n ≢ at / 2 → IsNode (set inner at v) leaves n
  played some within is others n more lt ne =
      let long = length-set inner at v in
      ⊎_elim
      (λ (here : n ≡ at).
      ap (λ k. get_or (set inner at v) k None) here ∙ get_or-set_same inner at v None within
      ∙ is
      ∙ ap (λ k. winner (node_at inner leaves (k * 2)) (node_at inner leaves (k * 2 + 1))) (sym here)
      ∙ children_same n (λ (e : n * 2 ≡ at). absurd (omega arith)) (λ (e : n * 2 + 1 ≡ at). absurd (omega arith)))
      (λ (other : n ≢ at).
      get_or-set_other inner at n v None other
      ∙ others n more (omega (arith, long, lt)) other
      ∙ children_same n (λ (e : n * 2 ≡ at). ne (omega (arith, e)))
      (λ (e : n * 2 + 1 ≡ at). ne (omega (arith, e))))
      (cases_eq n at)

-- what stands at the first node
module _ (inner leaves : List (Option First)) (is : IsTournament inner leaves) where
  at_inner : (n : ℕ) → n < length inner → node_at inner leaves n ≡ get_or inner n None
  at_inner n lt =
      ap (λ b. if b then get_or inner n None else get_or leaves (n - length inner) None) (lt-ltb n (length inner) lt)

  at_leaf : (n : ℕ) → length inner ≤ n → node_at inner leaves n ≡ get_or leaves (n - length inner) None
  at_leaf n le =
      ap (λ b. if b then get_or inner n None else get_or leaves (n - length inner) None)
      (le-ltb n (length inner) le)

  at_node : (n : ℕ) → 0 < n → n < length inner →
      node_at inner leaves n ≡ winner (node_at inner leaves (n * 2)) (node_at inner leaves (n * 2 + 1))
  at_node n some lt = at_inner n lt ∙ is.nodes n some lt

  above : (p j : ℕ) → 0 < p → p < length inner → p * 2 ≤ j → j ≤ p * 2 + 1 →
      IsNoLater (node_at inner leaves p) (node_at inner leaves j)
  above p j some lt low high =
      subst (λ w. IsNoLater w (node_at inner leaves j)) (sym (at_node p some lt))
      (⊎_elim
      (λ (e : j ≡ p * 2).
      subst (λ m. IsNoLater (winner (node_at inner leaves (p * 2)) (node_at inner leaves (p * 2 + 1)))
      (node_at inner leaves m)) (sym e)
      (winner-left (node_at inner leaves (p * 2)) (node_at inner leaves (p * 2 + 1))))
      (λ (n : j ≢ p * 2).
      let e : j ≡ p * 2 + 1 = omega (arith, n, low, high) in
      subst (λ m. IsNoLater (winner (node_at inner leaves (p * 2)) (node_at inner leaves (p * 2 + 1)))
      (node_at inner leaves m)) (sym e)
      (winner-right (node_at inner leaves (p * 2)) (node_at inner leaves (p * 2 + 1))))
      (cases_eq j (p * 2)))

  under : (fuel j : ℕ) → j ≤ fuel → 0 < j → j < length inner * 2 →
      IsNoLater (node_at inner leaves 1) (node_at inner leaves j)
  under zero j le some lt = absurd (omega (arith, le, some))
  under (suc fuel) j le some lt = ⊎_elim
      (λ (e : j ≡ 1).
      subst (λ m. IsNoLater (node_at inner leaves 1) (node_at inner leaves m)) (sym e)
      (no_later-refl (node_at inner leaves 1)))
      (λ (n : j ≢ 1).
      no_later-trans (node_at inner leaves 1) (node_at inner leaves (j / 2)) (node_at inner leaves j)
      (under fuel (j / 2) (omega (arith, le, some, n)) (omega (arith, some, n)) (omega (arith, lt)))
      (above (j / 2) j (omega (arith, some, n)) (omega (arith, lt)) (omega arith) (omega arith)))
      (cases_eq j 1)

  below : (fuel j : ℕ) → length inner * 2 ≤ j + fuel → 0 < j → j < length inner * 2 →
      (k : ℕ) × (get_or leaves k None ≡ node_at inner leaves j)
  below zero j le some lt = absurd (omega (arith, le, lt))
  below (suc fuel) j le some lt = ⊎_elim
      (λ (low : j < length inner). ⊎_elim
      (λ (e : winner (node_at inner leaves (j * 2)) (node_at inner leaves (j * 2 + 1)) ≡ node_at inner leaves (j * 2)).
      let rest = below fuel (j * 2) (omega (arith, le, some)) (omega (arith, some)) (omega (arith, low)) in
      (rest.0, rest.1 ∙ sym e ∙ sym (at_node j some low)))
      (λ (e : winner (node_at inner leaves (j * 2)) (node_at inner leaves (j * 2 + 1)) ≡ node_at inner leaves (j * 2 + 1)).
      let rest = below fuel (j * 2 + 1) (omega (arith, le, some)) (omega (arith, some)) (omega (arith, low)) in
      (rest.0, rest.1 ∙ sym e ∙ sym (at_node j some low)))
      (winner-one (node_at inner leaves (j * 2)) (node_at inner leaves (j * 2 + 1))))
      (λ (high : length inner ≤ j). (j - length inner, sym (at_leaf j high)))
      (cases_lt j (length inner))

  pub first_node : 0 < length leaves → IsFirst leaves (node_at inner leaves 1)
  first_node some =
      let long = is.long in
      record {
        there =
            below (length inner * 2) 1 (omega arith) (omega arith) (omega (arith, some, long));
        least = λ k. ⊎_elim
            (λ (lt : k < length leaves).
            let sum : length inner + k - length inner ≡ k = omega arith in
            subst (IsNoLater (node_at inner leaves 1))
            (at_leaf (length inner + k) (omega arith) ∙ ap (λ m. get_or leaves m None) sum)
            (under (length inner + k) (length inner + k) (omega arith) (omega (arith, long, lt))
            (omega (arith, long, lt))))
            (λ (le : length leaves ≤ k).
            subst (IsNoLater (node_at inner leaves 1)) (sym (get_or_past leaves k None le)) tt)
            (cases_lt k (length leaves));
      }

-- a number that isn't 0
pub some_many : (n : ℕ) (empty : Bool) → empty ≡ (n == 0) → empty ≡ false → 0 < n
some_many zero empty is isnt = absurd (true≢false (sym is ∙ isnt))
some_many (suc n) empty is isnt = omega arith

same_if : (b : Bool) (x : Option First) → (if b then x else x) ≡ x
same_if true x = refl
same_if false x = refl

same_at : (n k : ℕ) (x : Option First) → slice_index_or (replicate n x) k x ≡ x
same_at n k x =
    ⊎_elim (λ within. get_or-replicate n k x x within)
    (λ past. get_or_past (replicate n x) k x (rw (length-replicate n x) past)) (cases_lt k n)

abbrev nobody : Option First
nobody = None

none_node : (n k : ℕ) → node_at (replicate n nobody) (replicate n nobody) k ≡ nobody
none_node n k =
    rw (same_at n k nobody, same_at n (k - length (replicate n nobody)) nobody)
    (same_if (nat_lt k (length (replicate n nobody))) nobody)

-- where no wait is pending, nothing has been played
pub none_yet : (n : ℕ) → n < 2 ^ 32 → IsTournament (replicate n nobody) (replicate n nobody)
none_yet n small = record {
  long = refl;
  small = rw (length-replicate n nobody) small;
  nodes = λ k positive within. rw (same_at n k nobody, none_node n (k * 2), none_node n (k * 2 + 1)) refl;
}
