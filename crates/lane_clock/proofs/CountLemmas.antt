-- How many positions and places were drawn: all lists together, each of which is bounded.
use Rattle.std.proofs.Common.{◌≡◌, ◌≢◌, ◌⊎◌, inl, inr, ℕ, zero, suc, ◌+◌, ◌*◌, ◌^◌, ◌<◌, ◌≤◌, List, [], ◌∷◌, ◌++◌, Bool, true, false, eqb, if◌then◌else◌, sym, refl, ap, ◌∙◌, subst, ⊎_elim, arith}
use mathlib.Core.Logic.{dite}
use native.Mathlib.Decide.{ℕ_discrete}
use Rattle.lane_clock.specs.declared.step.ClockStep.{ClockStep}
use Rattle.lane_clock.specs.declared.step.ClockStep.TheVariants.{Draw, Load, Place, Put, Look, Join}
use Rattle.lane_clock.specs.Steps.{draw_count, place_count, step_count}
use Rattle.lane_clock.specs.Changes.{sum_below}
use Rattle.lane_clock.specs.History.{ClockEvent, steps_under, drawn, places_with, places_after, Fits, IsSoundHistory}
use Rattle.lane_clock.proofs.KnownLemmas.{event, under_same, under_other}

same_below : (f g : ℕ → ℕ) (n : ℕ) → ((k : ℕ) → k < n → g k ≡ f k) → sum_below g n ≡ sum_below f n
same_below f g zero h = refl
same_below f g (suc n) h =
    let a : g n ≡ f n = h n (omega arith) in
    let b : sum_below g n ≡ sum_below f n = same_below f g n (λ k l. h k (omega arith)) in omega arith

bumped_below : (f g : ℕ → ℕ) (k x n : ℕ) → k < n → g k ≡ f k + x → ((m : ℕ) → m ≢ k → g m ≡ f m) →
    sum_below g n ≡ sum_below f n + x
bumped_below f g k x zero lt here there = absurd (omega arith)
bumped_below f g k x (suc n) lt here there = dite (ℕ_discrete n k)
    (λ (e : n ≡ k).
    let a : g n ≡ f n + x = subst (λ m. g m ≡ f m + x) (sym e) here in
    let b : sum_below g n ≡ sum_below f n = same_below f g n (λ m l. there m (λ q. absurd (omega arith))) in omega arith)
    (λ (ne : n ≢ k).
    let a : g n ≡ f n = there n ne in
    let b : sum_below g n ≡ sum_below f n + x = bumped_below f g k x n (omega arith) here there in omega arith)

bounded_below : (f : ℕ → ℕ) (n : ℕ) → ((k : ℕ) → f k ≤ 65536) → sum_below f n ≤ n * 65536
bounded_below f zero h = omega arith
bounded_below f (suc n) h =
    let a : f n ≤ 65536 = h n in let c : sum_below f n ≤ n * 65536 = bounded_below f n h in omega arith

pub counted_push : (f : ClockStep → ℕ) (xs : List ClockStep) (x : ClockStep) →
    step_count f (xs ++ x ∷ []) ≡ step_count f xs + f x
counted_push f [] x = omega arith
counted_push f (y ∷ xs) x =
    let e : step_count f (xs ++ x ∷ []) ≡ step_count f xs + f x = counted_push f xs x in omega arith

-- of all events
abbrev pub counted_in : (ClockStep → ℕ) → List ClockEvent → ℕ
counted_in f [] = 0
counted_in f (e ∷ es) = f e.step + counted_in f es

counted_nil : (f : ClockStep → ℕ) (n : ℕ) → sum_below (λ k. step_count f (steps_under k [])) n ≡ 0
counted_nil f zero = refl
counted_nil f (suc n) = let h : sum_below (λ k. step_count f (steps_under k [])) n ≡ 0 = counted_nil f n in omega arith

under_counted : (f : ClockStep → ℕ) (es : List ClockEvent) (n : ℕ) (st : ClockStep) →
    step_count f (steps_under n (event n st ∷ es)) ≡ step_count f (steps_under n es) + f st
under_counted f es n st = ap (step_count f) (under_same es n st) ∙ counted_push f (steps_under n es) st

counted_in_lists : (f : ClockStep → ℕ) (guards seats : ℕ) (es : List ClockEvent) → IsSoundHistory guards seats es →
    counted_in f es ≡ sum_below (λ k. step_count f (steps_under k es)) seats
counted_in_lists f g n [] s = sym (counted_nil f n)
counted_in_lists f g n (e ∷ es) s =
    let h : counted_in f es ≡ sum_below (λ k. step_count f (steps_under k es)) n = counted_in_lists f g n es s.0 in
    let b : sum_below (λ k. step_count f (steps_under k (e ∷ es))) n
    ≡ sum_below (λ k. step_count f (steps_under k es)) n + f e.step =
    bumped_below (λ k. step_count f (steps_under k es)) (λ k. step_count f (steps_under k (e ∷ es))) e.by
    (f e.step) n s.1
    (under_counted f es e.by e.step)
    (λ m ne. ap (step_count f) (under_other es m e.by e.step ne)) in
    omega arith

-- The step isn't counted, or its list had room
abbrev Rooms : (ClockStep → ℕ) → ℕ → Type 0
Rooms f guards =
    (es : List ClockEvent) (n : ℕ) (st : ClockStep) → Fits guards es n st →
    (f st ≡ 0) ⊎ ((f st ≡ 1) × (step_count f (steps_under n es) < 65536))

draw_rooms : (guards : ℕ) → Rooms draw_count guards
draw_rooms g es n (Draw shown change found) h = inr (refl, h.1)
draw_rooms g es n (Load found) h = inl refl
draw_rooms g es n (Place lane place) h = inl refl
draw_rooms g es n (Put lane place note) h = inl refl
draw_rooms g es n (Look lane place held) h = inl refl
draw_rooms g es n (Join counts) h = inl refl

place_rooms : (guards : ℕ) → Rooms place_count guards
place_rooms g es n (Draw shown change found) h = inl refl
place_rooms g es n (Load found) h = inl refl
place_rooms g es n (Place lane place) h = inr (refl, h.1)
place_rooms g es n (Put lane place note) h = inl refl
place_rooms g es n (Look lane place held) h = inl refl
place_rooms g es n (Join counts) h = inl refl

bounded_list : (f : ClockStep → ℕ) (guards seats : ℕ) → Rooms f guards → (es : List ClockEvent) →
    IsSoundHistory guards seats es → (k : ℕ) → step_count f (steps_under k es) ≤ 65536
bounded_list f g n rooms [] s k = omega arith
bounded_list f g n rooms (e ∷ es) s k =
    let h : step_count f (steps_under k es) ≤ 65536 = bounded_list f g n rooms es s.0 k in
    dite (ℕ_discrete k e.by)
    (λ (p : k ≡ e.by).
    let c : step_count f (steps_under k (e ∷ es)) ≡ step_count f (steps_under k es) + f e.step =
    subst (λ m. step_count f (steps_under k (event m e.step ∷ es)) ≡ step_count f (steps_under k es) + f e.step) p
    (under_counted f es k e.step) in
    ⊎_elim
    (λ (z : f e.step ≡ 0). omega arith)
    (λ (z : (f e.step ≡ 1) × (step_count f (steps_under e.by es) < 65536)).
    let one : f e.step ≡ 1 = z.0 in
    let room : step_count f (steps_under k es) < 65536 =
    subst (λ m. step_count f (steps_under m es) < 65536) (sym p) z.1 in omega arith)
    (rooms es e.by e.step s.2))
    (λ (ne : k ≢ e.by). subst (λ l. step_count f l ≤ 65536) (sym (under_other es k e.by e.step ne)) h)

few_in : (f : ClockStep → ℕ) (guards seats : ℕ) → Rooms f guards → (es : List ClockEvent) →
    IsSoundHistory guards seats es → counted_in f es ≤ seats * 65536
few_in f g n rooms es s =
    let e : counted_in f es ≡ sum_below (λ k. step_count f (steps_under k es)) n = counted_in_lists f g n es s in
    let b : sum_below (λ k. step_count f (steps_under k es)) n ≤ n * 65536 =
    bounded_below (λ k. step_count f (steps_under k es)) n (bounded_list f g n rooms es s) in
    omega arith

drawn_counted : (es : List ClockEvent) → drawn es ≡ counted_in draw_count es
drawn_counted [] = refl
drawn_counted (e ∷ es) = let h : drawn es ≡ counted_in draw_count es = drawn_counted es in omega arith

-- so few positions are drawn that the clock never wraps
pub few_drawn : (guards seats : ℕ) (es : List ClockEvent) → seats ≤ 2 ^ 15 → IsSoundHistory guards seats es →
    drawn es ≤ 2 ^ 31
few_drawn g n es few s =
    let a : drawn es ≡ counted_in draw_count es = drawn_counted es in
    let b : counted_in draw_count es ≤ n * 65536 = few_in draw_count g n (draw_rooms g) es s in omega arith

pub places_step : (lane k : ℕ) (st : ClockStep) →
    (places_with lane st k ≡ k) ⊎ ((places_with lane st k ≡ k + 1) × (place_count st ≡ 1))
places_step lane k (Draw shown change found) = inl refl
places_step lane k (Load found) = inl refl
places_step lane k (Place at place) = go (eqb lane at)
  where
    go : (b : Bool) →
        ((if b then k + 1 else k) ≡ k) ⊎ (((if b then k + 1 else k) ≡ k + 1) × (place_count (Place at place) ≡ 1))
    go true = inr (refl, refl)
    go false = inl refl
places_step lane k (Put at place note) = inl refl
places_step lane k (Look at place held) = inl refl
places_step lane k (Join counts) = inl refl

places_counted : (lane : ℕ) (es : List ClockEvent) → places_after lane es ≤ counted_in place_count es
places_counted lane [] = omega arith
places_counted lane (e ∷ es) = let h : places_after lane es ≤ counted_in place_count es = places_counted lane es in
    let n : places_after lane (e ∷ es) ≡ places_with lane e.step (places_after lane es) = refl in
    ⊎_elim
    (λ (z : places_with lane e.step (places_after lane es) ≡ places_after lane es). omega arith)
    (λ (z : (places_with lane e.step (places_after lane es) ≡ places_after lane es + 1) × (place_count e.step ≡ 1)).
    let a = z.0 in let b = z.1 in omega arith)
    (places_step lane (places_after lane es) e.step)

pub few_placed : (guards seats : ℕ) (es : List ClockEvent) (lane : ℕ) → seats ≤ 2 ^ 15 →
    IsSoundHistory guards seats es → places_after lane es ≤ 2 ^ 31
few_placed g n es lane few s =
    let a : places_after lane es ≤ counted_in place_count es = places_counted lane es in
    let b : counted_in place_count es ≤ n * 65536 = few_in place_count g n (place_rooms g) es s in omega arith
