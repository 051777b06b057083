-- The parts of the rule on places, cells and joins follow from the history.
use Rattle.std.proofs.Common.{◌≡◌, inl, inr, ℕ, ◌+◌, ◌<◌, ◌≤◌, Bool, true, false, ◌&&◌, eqb, eq-eqb, eqb-true, List, [], ◌∷◌, length, if◌then◌else◌, sym, refl, ap, ◌∙◌, subst, ⊎_elim, arith, Option, Some, None}
use mathlib.Core.Option.{some}
use lib.ListN.{get_elem?}
use Rattle.std.proofs.lemmas.Bool.{cases_lt}
use Rattle.atomic_table.proofs.Lists.{at_last}
use Rattle.lane_clock.specs.declared.note.Note.{Note}
use Rattle.lane_clock.specs.declared.step.ClockStep.{ClockStep}
use Rattle.lane_clock.specs.declared.step.ClockStep.TheVariants.{Draw, Load, Place, Put, Look, Join}
use Rattle.lane_clock.specs.Rule.{Places, Puts}
use Rattle.lane_clock.specs.History.{ClockEvent, steps_under, places_after, places_with, cell_after, cell_with, Fits, IsSoundHistory}
use Rattle.lane_clock.proofs.KnownLemmas.{event, under_same}
use Rattle.lane_clock.proofs.MomentLemmas.{Tail, tail_refl, at_later}
use Rattle.lane_clock.proofs.CountLemmas.{places_step}

-- places of a lane are drawn upwards
pub places_grow : (lane : ℕ) (a es : List ClockEvent) → Tail a es → places_after lane a ≤ places_after lane es
places_grow lane a [] h = let e : places_after lane a ≡ 0 = ap (places_after lane) h in omega arith
places_grow lane a (x ∷ es) (inl h) =
    let e : places_after lane a ≡ places_after lane (x ∷ es) = ap (places_after lane) h in omega arith
places_grow lane a (x ∷ es) (inr h) =
    let e : places_after lane a ≤ places_after lane es = places_grow lane a es h in
    let n : places_after lane (x ∷ es) ≡ places_with lane x.step (places_after lane es) = refl in
    ⊎_elim
    (λ (z : places_with lane x.step (places_after lane es) ≡ places_after lane es). omega arith)
    (λ z. let q : places_with lane x.step (places_after lane es) ≡ places_after lane es + 1 = z.0 in omega arith)
    (places_step lane (places_after lane es) x.step)

pub placed_here : (es : List ClockEvent) (n lane place : ℕ) →
    places_after lane (event n (Place lane place) ∷ es) ≡ places_after lane es + 1
placed_here es n lane place = rw (eq-eqb lane lane refl) refl

-- the step that made a history of the shorter one stands last in its list
pub at_newest : (es : List ClockEvent) (n : ℕ) (st : ClockStep) →
    get_elem? (steps_under n (event n st ∷ es)) (length (steps_under n es)) ≡ some st
at_newest es n st =
    subst (λ xs. get_elem? xs (length (steps_under n es)) ≡ some st) (sym (under_same es n st))
    (at_last (steps_under n es) st (length (steps_under n es)) refl)

-- a cell that was put holds the note from then on
pub put_here : (es : List ClockEvent) (n lane place : ℕ) (note : Note) →
    cell_after lane place (event n (Put lane place note) ∷ es) ≡ Some note
put_here es n lane place note = rw (eq-eqb lane lane refl, eq-eqb place place refl) refl

full_once : (lane place at p : ℕ) (x note : Note) (held : Option Note) (other : Option Note) → held ≡ Some x →
    ((lane ≡ at) → (place ≡ p) → other ≡ held) → other ≡ None → cell_with lane place (Put at p note) held ≡ Some x
full_once lane place at p x note held other full same none = go (eqb lane at) (eqb place p) refl refl
  where
    go : (b c : Bool) → eqb lane at ≡ b → eqb place p ≡ c → (if b && c then Some note else held) ≡ Some x
    go true true e f =
        absurd (let g : None ≡ Some x = sym none ∙ (same (eqb-true lane at e) (eqb-true place p f) ∙ full) in cc)
    go true false e f = full
    go false c e f = full

cell_step : (guards : ℕ) (es : List ClockEvent) (lane place n : ℕ) (x : Note) (st : ClockStep) → Fits guards es n st →
    cell_after lane place es ≡ Some x → cell_with lane place st (cell_after lane place es) ≡ Some x
cell_step g es lane place n x (Draw shown c f) fits h = h
cell_step g es lane place n x (Load f) fits h = h
cell_step g es lane place n x (Place at p) fits h = h
cell_step g es lane place n x (Put at p note) fits h =
    full_once lane place at p x note (cell_after lane place es) (cell_after at p es) h
    (λ e f i. cell_after (sym e i) (sym f i) es) fits.1
cell_step g es lane place n x (Look at p held) fits h = h
cell_step g es lane place n x (Join counts) fits h = h

pub cell_stays : (guards seats : ℕ) (lane place : ℕ) (x : Note) (a es : List ClockEvent) → Tail a es →
    IsSoundHistory guards seats es → cell_after lane place a ≡ Some x → cell_after lane place es ≡ Some x
cell_stays g s lane place x a [] h sound full = subst (λ y. cell_after lane place y ≡ Some x) h full
cell_stays g s lane place x a (e ∷ es) (inl h) sound full = subst (λ y. cell_after lane place y ≡ Some x) h full
cell_stays g s lane place x a (e ∷ es) (inr h) sound full =
    cell_step g es lane place e.by x e.step sound.2 (cell_stays g s lane place x a es h sound.0 full)

-- where a cell is full a list put it
pub each_put : (lane place : ℕ) (x : Note) (es : List ClockEvent) → cell_after lane place es ≡ Some x →
    (m : ℕ) × (i : ℕ) × Puts (λ n. steps_under n es) m i lane place x
each_put lane place x [] h = absurd (cc)
each_put lane place x (e ∷ es) h = go (each_put lane place x es) e.step h
  where
    lift : (st : ClockStep) → (m : ℕ) × (i : ℕ) × Puts (λ n. steps_under n es) m i lane place x →
        (m : ℕ) × (i : ℕ) × Puts (λ n. steps_under n (event e.by st ∷ es)) m i lane place x
    lift st p = (p.0, p.1, at_later p.0 es (event e.by st ∷ es) p.1 (Put lane place x) (inr (tail_refl es)) p.2)

    put : (cell_after lane place es ≡ Some x → (m : ℕ) × (i : ℕ) × Puts (λ n. steps_under n es) m i lane place x) →
        (at p : ℕ) (note : Note) (b c : Bool) → eqb lane at ≡ b → eqb place p ≡ c →
        (if b && c then Some note else cell_after lane place es) ≡ Some x →
        (m : ℕ) × (i : ℕ) × Puts (λ n. steps_under n (event e.by (Put at p note) ∷ es)) m i lane place x
    put back at p note true true f g q =
        let l : at ≡ lane = sym (eqb-true lane at f) in
        let k : p ≡ place = sym (eqb-true place p g) in
        let y : note ≡ x = ap (λ (o : Option Note). elim o as (λ _. Note) [ Some z ↦ z | None ↦ note ]) q in (
          e.by,
          length (steps_under e.by es),
          at_newest es e.by (Put at p note) ∙ (λ i. some (Put (l i) (k i) (y i))),
        )
    put back at p note true false f g q = lift (Put at p note) (back q)
    put back at p note false c f g q = lift (Put at p note) (back q)

    go : (cell_after lane place es ≡ Some x → (m : ℕ) × (i : ℕ) × Puts (λ n. steps_under n es) m i lane place x) →
        (st : ClockStep) → cell_with lane place st (cell_after lane place es) ≡ Some x →
        (m : ℕ) × (i : ℕ) × Puts (λ n. steps_under n (event e.by st ∷ es)) m i lane place x
    go back (Draw shown c f) q = lift (Draw shown c f) (back q)
    go back (Load f) q = lift (Load f) (back q)
    go back (Place at p) q = lift (Place at p) (back q)
    go back (Put at p note) q = put back at p note (eqb lane at) (eqb place p) refl refl q
    go back (Look at p held) q = lift (Look at p held) (back q)
    go back (Join counts) q = lift (Join counts) (back q)

-- each place below was drawn
pub each_placed : (guards seats : ℕ) (es : List ClockEvent) → IsSoundHistory guards seats es → (lane k : ℕ) →
    k < places_after lane es → (m : ℕ) × (i : ℕ) × Places (λ n. steps_under n es) m i lane k
each_placed g s [] sound lane k lt = absurd (omega arith)
each_placed g s (e ∷ es) sound lane k lt = go (each_placed g s es sound.0 lane k) e.step sound.2 lt
  where
    lift : (st : ClockStep) → (m : ℕ) × (i : ℕ) × Places (λ n. steps_under n es) m i lane k →
        (m : ℕ) × (i : ℕ) × Places (λ n. steps_under n (event e.by st ∷ es)) m i lane k
    lift st p = (p.0, p.1, at_later p.0 es (event e.by st ∷ es) p.1 (Place lane k) (inr (tail_refl es)) p.2)

    old : (k < places_after lane es → (m : ℕ) × (i : ℕ) × Places (λ n. steps_under n es) m i lane k) →
        (st : ClockStep) → k < places_after lane es →
        (m : ℕ) × (i : ℕ) × Places (λ n. steps_under n (event e.by st ∷ es)) m i lane k
    old back st l = lift st (back l)

    place : (k < places_after lane es → (m : ℕ) × (i : ℕ) × Places (λ n. steps_under n es) m i lane k) → (at p : ℕ) →
        p ≡ places_after at es → (b : Bool) → eqb lane at ≡ b →
        k < (if b then places_after lane es + 1 else places_after lane es) →
        (m : ℕ) × (i : ℕ) × Places (λ n. steps_under n (event e.by (Place at p) ∷ es)) m i lane k
    place back at p is true f l = ⊎_elim (λ (lt' : k < places_after lane es). old back (Place at p) lt')
        (λ (ge : places_after lane es ≤ k).
        let q : at ≡ lane = sym (eqb-true lane at f) in
        let r : places_after lane es ≡ k = omega arith in
        (e.by, length (steps_under e.by es), at_newest es e.by (Place at p) ∙ (λ i. some (Place (q i) ((is ∙ (ap (λ y. places_after y es) q ∙ r)) i)))))
        (cases_lt k (places_after lane es))
    place back at p is false f l = old back (Place at p) l

    go : (k < places_after lane es → (m : ℕ) × (i : ℕ) × Places (λ n. steps_under n es) m i lane k) → (st : ClockStep) →
        Fits g es e.by st → k < places_with lane st (places_after lane es) →
        (m : ℕ) × (i : ℕ) × Places (λ n. steps_under n (event e.by st ∷ es)) m i lane k
    go back (Draw shown c f) fits l = old back (Draw shown c f) l
    go back (Load f) fits l = old back (Load f) l
    go back (Place at p) fits l = place back at p fits.0 (eqb lane at) refl l
    go back (Put at p note) fits l = old back (Put at p note) l
    go back (Look at p held) fits l = old back (Look at p held) l
    go back (Join counts) fits l = old back (Join counts) l
