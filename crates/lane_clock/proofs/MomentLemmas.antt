-- Each step under a number was made at a moment of the history, and moments stand in one order.
use Rattle.std.proofs.Common.{◌≡◌, ◌≢◌, ◌⊎◌, inl, inr, ℕ, suc, ◌+◌, ◌<◌, ◌≤◌, List, [], ◌∷◌, ◌++◌, length, sym, refl, ap, ◌∙◌, subst, ⊎_elim, arith, length-append}
use Rattle.std.proofs.lemmas.Bool.{cases_lt}
use mathlib.Core.Option.{some, some-ne-none}
use mathlib.Core.Logic.{dite}
use native.Mathlib.Decide.{ℕ_discrete}
use lib.ListN.{get_elem?}
use Rattle.atomic_table.proofs.Lists.{at_longer}
use Rattle.lane_clock.specs.declared.step.ClockStep.{ClockStep}
use Rattle.lane_clock.specs.Knowledge.{StartOf}
use Rattle.lane_clock.specs.History.{ClockEvent, steps_under, IsSoundHistory}
use Rattle.lane_clock.proofs.KnownLemmas.{at_push, event, under_same, under_other}
use Rattle.lane_clock.proofs.KeepLemmas.{start_under, start_same}

-- the history a, or a with more events
abbrev pub Tail : List ClockEvent → List ClockEvent → Type 0
Tail a [] = a ≡ []
Tail a (e ∷ es) = (a ≡ e ∷ es) ⊎ Tail a es

pub tail_refl : (es : List ClockEvent) → Tail es es
tail_refl [] = refl
tail_refl (e ∷ es) = inl refl

abbrev older_of : List ClockEvent → List ClockEvent
older_of [] = []
older_of (e ∷ es) = es

cons_rest : (x y : ClockEvent) (xs ys : List ClockEvent) → x ∷ xs ≡ y ∷ ys → xs ≡ ys
cons_rest x y xs ys h = ap older_of h

pub tail_more : (a : List ClockEvent) (e : ClockEvent) (es : List ClockEvent) → Tail (e ∷ a) es → Tail a es
tail_more a e [] h = absurd (cc)
tail_more a e (x ∷ es) (inl h) = inr (subst (Tail a) (cons_rest e x a es h) (tail_refl a))
tail_more a e (x ∷ es) (inr h) = inr (tail_more a e es h)

pub tail_trans : (a b c : List ClockEvent) → Tail a b → Tail b c → Tail a c
tail_trans a b [] ab bc = subst (Tail a) bc ab
tail_trans a b (x ∷ c) ab (inl h) = subst (Tail a) h ab
tail_trans a b (x ∷ c) ab (inr h) = inr (tail_trans a b c ab h)

pub tail_length : (a es : List ClockEvent) → Tail a es → length a ≤ length es
tail_length a [] h = let e : length a ≡ 0 = ap length h in omega arith
tail_length a (x ∷ es) (inl h) = let e : length a ≡ suc (length es) = ap length h in omega arith
tail_length a (x ∷ es) (inr h) = let e : length a ≤ length es = tail_length a es h in omega arith

-- of two the shorter comes first
pub tails_order : (a b es : List ClockEvent) → Tail a es → Tail b es → length a ≤ length b → Tail a b
tails_order a b [] ha hb le = subst (Tail a) (sym hb) ha
tails_order a b (x ∷ es) (inl ha) (inl hb) le = subst (Tail a) (ha ∙ sym hb) (tail_refl a)
tails_order a b (x ∷ es) (inl ha) (inr hb) le =
    let e : length a ≡ suc (length es) = ap length ha in
    let l : length b ≤ length es = tail_length b es hb in absurd (omega arith)
tails_order a b (x ∷ es) (inr ha) (inl hb) le = subst (Tail a) (sym hb) (inr ha)
tails_order a b (x ∷ es) (inr ha) (inr hb) le = tails_order a b es ha hb le

pub tail_same : (a b : List ClockEvent) → Tail a b → length a ≡ length b → a ≡ b
tail_same a [] h e = h
tail_same a (x ∷ b) (inl h) e = h
tail_same a (x ∷ b) (inr h) e = let l : length a ≤ length b = tail_length a b h in absurd (omega arith)

-- what more events leave holds later
pub grows : (P : List ClockEvent → Type 0) → ((e : ClockEvent) (es : List ClockEvent) → P es → P (e ∷ es)) →
    (a es : List ClockEvent) → Tail a es → P a → P es
grows P more a [] h p = subst P h p
grows P more a (x ∷ es) (inl h) p = subst P h p
grows P more a (x ∷ es) (inr h) p = more x es (grows P more a es h p)

pub sound_tail : (guards seats : ℕ) (a es : List ClockEvent) → Tail a es → IsSoundHistory guards seats es →
    IsSoundHistory guards seats a
sound_tail g n a [] h s = subst (IsSoundHistory g n) (sym h) s
sound_tail g n a (x ∷ es) (inl h) s = subst (IsSoundHistory g n) (sym h) s
sound_tail g n a (x ∷ es) (inr h) s = sound_tail g n a es h s.0

pub under_grows : (n : ℕ) (a es : List ClockEvent) → Tail a es → StartOf (steps_under n a) (steps_under n es)
under_grows n a es h =
    grows (λ x. StartOf (steps_under n a) (steps_under n x)) (λ e x p. start_under (steps_under n a) x n e.by e.step p)
    a es h (start_same _ _ refl)

start_length : (xs ys : List ClockStep) → StartOf xs ys → length xs ≤ length ys
start_length xs ys h = let e : length ys ≡ length xs + length h.0 = ap length h.1 ∙ length-append xs h.0 in omega arith

pub under_length : (n : ℕ) (a es : List ClockEvent) → Tail a es → length (steps_under n a) ≤ length (steps_under n es)
under_length n a es h = start_length _ _ (under_grows n a es h)

pub at_start : (xs ys : List ClockStep) (i : ℕ) (x : ClockStep) → StartOf xs ys → get_elem? xs i ≡ some x →
    get_elem? ys i ≡ some x
at_start xs ys i x h e = subst (λ zs. get_elem? zs i ≡ some x) (sym h.1) (at_longer xs h.0 i x e)

-- a step stands at its place later too
pub at_later : (n : ℕ) (a es : List ClockEvent) (i : ℕ) (x : ClockStep) → Tail a es →
    get_elem? (steps_under n a) i ≡ some x → get_elem? (steps_under n es) i ≡ some x
at_later n a es i x h e = at_start _ _ i x (under_grows n a es h) e

-- When a step was made
pub record Moment (es : List ClockEvent) (m i : ℕ) (st : ClockStep) : Type 0 where
  pub older : List ClockEvent
  pub tail : Tail (event m st ∷ older) es
  pub index : i ≡ length (steps_under m older)

later_moment : (e : ClockEvent) (es : List ClockEvent) (m i : ℕ) (st : ClockStep) → Moment es m i st →
    Moment (e ∷ es) m i st
later_moment e es m i st h = record { older = h.older; tail = inr h.tail; index = h.index }

abbrev pub moment_in : (a es : List ClockEvent) (m i : ℕ) (st : ClockStep) → Tail a es → Moment a m i st →
    Moment es m i st
moment_in a es m i st t h = record { older = h.older; tail = tail_trans _ a es h.tail t; index = h.index }

pub moment_of : (es : List ClockEvent) (m i : ℕ) (st : ClockStep) → get_elem? (steps_under m es) i ≡ some st →
    Moment es m i st
moment_of [] m i st e = absurd (some-ne-none st (sym e))
moment_of (x ∷ es) m i st e = dite (ℕ_discrete m x.by)
    (λ (p : m ≡ x.by).
    let here : get_elem? (steps_under m es ++ x.step ∷ []) i ≡ some st =
    subst (λ l. get_elem? l i ≡ some st)
    (subst (λ k. steps_under m (event k x.step ∷ es) ≡ steps_under m es ++ x.step ∷ []) p (under_same es m x.step)) e
    in
    ⊎_elim
    (λ h. later_moment x es m i st (moment_of es m i st h))
    (λ (h : (i ≡ length (steps_under m es)) × (x.step ≡ st)).
    record { older = es; tail = inl (λ k. event (p k) (sym h.1 k) ∷ es); index = h.0 })
    (at_push (steps_under m es) x.step st i here))
    (λ (ne : m ≢ x.by).
    later_moment x es m i st
    (moment_of es m i st (subst (λ l. get_elem? l i ≡ some st) (under_other es m x.by x.step ne) e)))

-- one of two moments is the earlier, or they are one
pub record One (m i n j : ℕ) (s t : ClockStep) (a b : List ClockEvent) : Type 0 where
  pub number : m ≡ n
  pub place : i ≡ j
  pub step : s ≡ t
  pub older : a ≡ b

abbrev first_of_all : ClockEvent → List ClockEvent → ClockEvent
first_of_all d [] = d
first_of_all d (e ∷ es) = e

one_moment : (m i n j : ℕ) (s t : ClockStep) (a b : List ClockEvent) → i ≡ length (steps_under m a) →
    j ≡ length (steps_under n b) → event m s ∷ a ≡ event n t ∷ b → One m i n j s t a b
one_moment m i n j s t a b hi hj h =
    let older : a ≡ b = ap older_of h in
    let e : event m s ≡ event n t = ap (first_of_all (event m s)) h in
    let number : m ≡ n = ap (λ (x : ClockEvent). x.by) e in record {
      number = number;
      place = hi ∙ ((λ k. length (steps_under (number k) (older k))) ∙ sym hj);
      step = ap (λ (x : ClockEvent). x.step) e;
      older = older;
    }

module _ (es : List ClockEvent) (m i n j : ℕ) (s t : ClockStep) (p : Moment es m i s) (q : Moment es n j t) where
  -- the first was made before the second
  abbrev pub Before : Type 0
  Before = Tail (event m s ∷ p.older) q.older

  pub before_by_length : length p.older < length q.older → Before
  before_by_length lt =
      tails_order (event m s ∷ p.older) q.older es p.tail (tail_more q.older (event n t) es q.tail) (omega arith)

  pub one_by_length : length p.older ≡ length q.older → One m i n j s t p.older q.older
  one_by_length e = one_moment m i n j s t p.older q.older p.index q.index
      (tail_same (event m s ∷ p.older) (event n t ∷ q.older)
      (tails_order (event m s ∷ p.older) (event n t ∷ q.older) es p.tail q.tail (omega arith)) (omega arith))

pub order_of : (es : List ClockEvent) (m i n j : ℕ) (s t : ClockStep) (p : Moment es m i s) (q : Moment es n j t)
    → Before es m i n j s t p q ⊎ (Before es n j m i t s q p ⊎ One m i n j s t p.older q.older)
order_of es m i n j s t p q = ⊎_elim
    (λ lt. inl (before_by_length es m i n j s t p q lt))
    (λ ge. ⊎_elim
    (λ lt. inr (inl (before_by_length es n j m i t s q p lt)))
    (λ le. inr (inr (one_by_length es m i n j s t p q (omega arith))))
    (cases_lt (length q.older) (length p.older)))
    (cases_lt (length p.older) (length q.older))

-- what stands among the steps known at a moment was made before it
pub within_before : (es : List ClockEvent) (m i n j : ℕ) (s t : ClockStep) (p : Moment es m i s) (q : Moment es n j t) →
    i < length (steps_under m q.older) → Before es m i n j s t p q
within_before es m i n j s t p q h = ⊎_elim
    (λ lt. before_by_length es m i n j s t p q lt)
    (λ ge.
    let back : Tail q.older p.older =
    tails_order q.older p.older es (tail_more q.older (event n t) es q.tail)
    (tail_more p.older (event m s) es p.tail) ge in
    let l : length (steps_under m q.older) ≤ length (steps_under m p.older) =
    under_length m q.older p.older back in
    let e : i ≡ length (steps_under m p.older) = p.index in absurd (omega arith))
    (cases_lt (length p.older) (length q.older))

-- of one list's steps the earlier was made before
pub in_order : (es : List ClockEvent) (m i j : ℕ) (s t : ClockStep) (p : Moment es m i s) (q : Moment es m j t) →
    i < j → Before es m i m j s t p q
in_order es m i j s t p q lt = within_before es m i m j s t p q (subst (λ k. i < k) q.index lt)

-- a step made before another of its list stands before it
pub before_index : (es : List ClockEvent) (m i j : ℕ) (s t : ClockStep) (p : Moment es m i s) (q : Moment es m j t) →
    Before es m i m j s t p q → i < j
before_index es m i j s t p q h =
    let l : length (steps_under m (event m s ∷ p.older)) ≤ length (steps_under m q.older) =
    under_length m (event m s ∷ p.older) q.older h in
    let g : length (steps_under m (event m s ∷ p.older)) ≡ length (steps_under m p.older) + 1 =
    ap length (under_same p.older m s) ∙ length-append (steps_under m p.older) (s ∷ []) in
    let a : i ≡ length (steps_under m p.older) = p.index in
    let b : j ≡ length (steps_under m q.older) = q.index in
    omega arith
