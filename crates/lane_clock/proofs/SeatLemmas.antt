-- What contracts see of a seat, and the seats that the giver gives away one by one.
use Rattle.std.proofs.Common.{eq-eqb, ◌≡◌, ◌≢◌, ℕ, zero, suc, ◌+◌, ◌-◌, ◌<◌, ◌≤◌, Bool, true, false, ◌||◌, List, [], ◌∷◌, ◌++◌, length, set, replicate, reverse, slice_index, sym, refl, ap, ◌∙◌, subst, arith, length-append}
use Rattle.std.proofs.lemmas.List.{length-replicate, length-reverse, reverse-append, get_or-set_same}
use mathlib.Core.Option.{some, some-injective, some-ne-none}
use lib.ListN.{get_elem?}
use Rattle.atomic_table.specs.Seated.{TableId}
use Rattle.lane_clock.specs.declared.step.ClockStep.{ClockStep}
use Rattle.lane_clock.specs.declared.step.Known.{Known}
use Rattle.lane_clock.specs.declared.step.View.{View}
use Rattle.lane_clock.specs.Layout.{Layout, cell_word, slot, slot_lane, slot_place, lane_of_cell, place_of_cell}
use Rattle.lane_clock.specs.declared.step.ClockStep.TheVariants.{Place, Join}
use Rattle.lane_clock.specs.Knowledge.{known, unknown, known_at, steps_at, joined, counts, owns_only, owns_below}
use Rattle.lane_clock.specs.Seats.{SeatView, ClockId, Owns, Keeps, own, seen_as, after_step, after_join, new_clock_seat, new_clock_seats}
use Rattle.lane_clock.specs.Steps.{has_drawn, has_put, is_place, is_put}
use Rattle.lane_clock.specs.Plays.{step_view, join_view, giver_after, given}
use Rattle.lane_clock.specs.Chronicle.{view_of}
use Rattle.lane_clock.proofs.KnownLemmas.{mine_within, stepped_here, stepped_other, stepped_mine}
use Rattle.lane_clock.proofs.WordLemmas.{slot_lane-slot, slot_place-slot}
use Rattle.lane_clock.proofs.JoinLemmas.{joined_at}

-- a step of the view is a step of the seat
pub shown_step : (t t' : TableId) (v v' : View) (st st' : ClockStep) (seat : SeatView) → t' ≡ t → v' ≡ step_view v st →
    st ≡ st' → seen_as t v ≡ seat → seen_as t' v' ≡ after_step seat st'
shown_step t t' v v' st st' seat et ev es is = (λ i. seen_as (et i) (ev i)) ∙ (λ i. after_step (is i) (es i))

pub cell_found : (plan own : Layout) (lane place word : ℕ) → own ≡ plan → word ≡ cell_word plan.cells lane place →
    place < slice_index plan.cells lane → (lane_of_cell own.cells word ≡ lane) × (place_of_cell own.cells word ≡ place)
cell_found plan own lane place word same is inside =
    let k : ℕ = slot plan.cells lane place in
    let e : 1 + length plan.cells + k - (1 + length plan.cells) ≡ k = omega arith in (
      (λ i. lane_of_cell (same i).cells (is i))
          ∙ (ap (slot_lane plan.cells) e ∙ slot_lane-slot plan.cells lane place inside),
      (λ i. place_of_cell (same i).cells (is i))
          ∙ (ap (slot_place plan.cells) e ∙ slot_place-slot plan.cells lane place inside),
    )

pub at_index : (xs : List ℕ) (i x : ℕ) → get_elem? xs i ≡ some x → slice_index xs i ≡ x
at_index [] i x e = absurd (some-ne-none x (sym e))
at_index (y ∷ xs) zero x e = some-injective y x e
at_index (y ∷ xs) (suc i) x e = at_index xs i x e

or_nothing : (b : Bool) → (b || false) ≡ b
or_nothing true = refl
or_nothing false = refl

or_truth : (b : Bool) → (b || true) ≡ true
or_truth true = refl
or_truth false = refl

or_assoc : (a b c : Bool) → (a || (b || c)) ≡ ((a || b) || c)
or_assoc true b c = refl
or_assoc false b c = refl

-- the giver with the numbers below n
abbrev pub giver_at : Layout → ℕ → View
giver_at plan n = view_of plan n (owns_below n plan.seats)

owned_front : (n m : ℕ) → known_at (replicate (suc n) (known true []) ++ replicate m unknown) n ≡ known true []
owned_front zero m = refl
owned_front (suc n) m = owned_front n m

owned_less : (n m : ℕ) →
    set (replicate (suc n) (known true []) ++ replicate m unknown) n unknown
    ≡ replicate n (known true []) ++ replicate (suc m) unknown
owned_less zero m = refl
owned_less (suc n) m = ap (λ ks. known true [] ∷ ks) (owned_less n m)

owns_last : (plan : Layout) (n : ℕ) → (known_at (giver_at plan (suc n)).known (suc n - 1)).mine ≡ true
owns_last plan n =
    let e : suc n - 1 ≡ n = omega arith in
    subst (λ k. (known_at (owns_below (suc n) plan.seats) k).mine ≡ true) (sym e)
    (ap (λ (k : Known). k.mine) (owned_front n (plan.seats - suc n)))

less_last : (plan : Layout) (n : ℕ) → n < plan.seats → giver_after (giver_at plan (suc n)) ≡ giver_at plan n
less_last plan n h =
    let e : suc n - 1 ≡ n = omega arith in
    let f : suc (plan.seats - suc n) ≡ plan.seats - n = omega arith in
    let ks : set (owns_below (suc n) plan.seats) (suc n - 1) unknown ≡ owns_below n plan.seats =
    ap (λ k. set (owns_below (suc n) plan.seats) k unknown) e
    ∙ (owned_less n (plan.seats - suc n) ∙ ap (λ m. replicate n (known true []) ++ replicate m unknown) f) in
    λ i. view_of plan (e i) (ks i)

gives_last : (table : TableId) (plan : Layout) (n : ℕ) → n < plan.seats →
    seen_as table (given (giver_at plan (suc n))) ≡ new_clock_seat record { table = table; plan = plan } n
gives_last table plan n h =
    let e : suc n - 1 ≡ n = omega arith in
    let a = length-replicate (suc n) (known true []) in
    let b = length-replicate (plan.seats - suc n) unknown in
    let long : length (owns_below (suc n) plan.seats) ≡ plan.seats =
    length-append (replicate (suc n) (known true [])) (replicate (plan.seats - suc n) unknown)
    ∙ omega (arith, a, b) in
    let one : known_at (owns_below (suc n) plan.seats) (suc n - 1) ≡ known true [] =
    ap (known_at (owns_below (suc n) plan.seats)) e ∙ owned_front n (plan.seats - suc n) in
    let ks : set (replicate (length (owns_below (suc n) plan.seats)) unknown) (suc n - 1)
    (known_at (owns_below (suc n) plan.seats) (suc n - 1))
    ≡ owns_only n plan.seats
    = λ i. set (replicate (long i) unknown) (e i) (one i) in
    λ i. record { clock = record { table = table; plan = plan }; number = e i; known = ks i }

-- the giver has a number to give while one is left
pub giver_owns : (plan : Layout) (n : ℕ) → 0 < n → (known_at (giver_at plan n).known (n - 1)).mine ≡ true
giver_owns plan zero h = absurd (omega arith)
giver_owns plan (suc n) h = owns_last plan n

pub giver_less : (plan : Layout) (n : ℕ) → 0 < n → n ≤ plan.seats →
    giver_after (giver_at plan n) ≡ giver_at plan (n - 1)
giver_less plan zero h le = absurd (omega arith)
giver_less plan (suc n) h le =
    let e : n ≡ suc n - 1 = omega arith in less_last plan n (omega arith) ∙ ap (giver_at plan) e

pub giver_gives : (table : TableId) (plan : Layout) (n : ℕ) → 0 < n → n ≤ plan.seats →
    seen_as table (given (giver_at plan n)) ≡ new_clock_seat record { table = table; plan = plan } (n - 1)
giver_gives table plan zero h le = absurd (omega arith)
giver_gives table plan (suc n) h le =
    let e : n ≡ suc n - 1 = omega arith in
    gives_last table plan n (omega arith) ∙ ap (new_clock_seat record { table = table; plan = plan }) e

-- one seat more in front
pub seats_more : (clock : ClockId) (n k : ℕ) (seats : List SeatView) → 0 < n → seats ≡ new_clock_seats clock n k →
    new_clock_seat clock (n - 1) ∷ seats ≡ new_clock_seats clock (n - 1) (k + 1)
seats_more clock n k seats h e =
    let a : n ≡ n - 1 + 1 = omega arith in
    let b : suc k ≡ k + 1 = omega arith in
    ap (λ xs. new_clock_seat clock (n - 1) ∷ xs) (e ∙ ap (λ m. new_clock_seats clock m k) a)
    ∙ ap (new_clock_seats clock (n - 1)) b

pub reverse_push : (xs : List SeatView) (x : SeatView) → reverse (xs ++ x ∷ []) ≡ x ∷ reverse xs
reverse_push xs x = reverse-append xs (x ∷ [])

-- a seat with its own steps has one more after a step
pub own_step : (seat : SeatView) (st : ClockStep) → Owns seat seat.number →
    own (after_step seat st) ≡ own seat ++ st ∷ []
own_step seat st mine =
    ap (λ (k : Known). k.steps) (stepped_here seat.known seat.number st (mine_within seat.known seat.number mine))

-- and the others stay
pub step_other : (seat : SeatView) (st : ClockStep) (n : ℕ) → n ≢ seat.number →
    known_at (after_step seat st).known n ≡ known_at seat.known n
step_other seat st n ne = stepped_other seat.known seat.number n st ne

pub owns_step : (seat : SeatView) (st : ClockStep) (n : ℕ) → Owns seat seat.number → Owns seat n →
    Owns (after_step seat st) n
owns_step seat st n mine h = stepped_mine seat.known seat.number n st (mine_within seat.known seat.number mine) ∙ h

abbrev with_joined : SeatView → List Known → SeatView
with_joined seat ks = record { clock = seat.clock; number = seat.number; known = joined seat.known ks }

joined_owns : (seat : SeatView) (ks : List Known) (n : ℕ) → Owns seat n → Owns (with_joined seat ks) n
joined_owns seat ks n h = ap (λ (k : Known). k.mine) (joined_at seat.known ks n) ∙ ap (λ b. b || (known_at ks n).mine) h

-- a seat that takes in another has one more step too
pub own_join : (seat : SeatView) (ks : List Known) → Owns seat seat.number →
    own (after_join seat ks) ≡ own seat ++ Join (counts ks) ∷ []
own_join seat ks mine =
    own_step (with_joined seat ks) (Join (counts ks)) (joined_owns seat ks seat.number mine)
    ∙ ap (λ xs. xs ++ Join (counts ks) ∷ []) (ap (λ (k : Known). k.steps) (joined_at seat.known ks seat.number) ∙ rw mine refl)

-- and keeps its numbers, and has the other's
pub owns_join : (seat : SeatView) (ks : List Known) (n : ℕ) → Owns seat seat.number → Owns seat n →
    Owns (after_join seat ks) n
owns_join seat ks n mine h =
    owns_step (with_joined seat ks) (Join (counts ks)) n (joined_owns seat ks seat.number mine) (joined_owns seat ks n h)

pub owns_joined : (seat : SeatView) (ks : List Known) (n : ℕ) → Owns seat seat.number → (known_at ks n).mine ≡ true →
    Owns (after_join seat ks) n
owns_joined seat ks n mine h =
    owns_step (with_joined seat ks) (Join (counts ks)) n (joined_owns seat ks seat.number mine)
    (ap (λ (k : Known). k.mine) (joined_at seat.known ks n)
    ∙ (ap (λ b. (known_at seat.known n).mine || b) h ∙ or_truth (known_at seat.known n).mine))

-- the steps of a number that only the other has come in whole
pub joined_steps : (seat : SeatView) (ks : List Known) (n : ℕ) → n ≢ seat.number →
    (known_at seat.known n).mine ≡ false → (known_at ks n).mine ≡ true →
    steps_at (after_join seat ks).known n ≡ steps_at ks n
joined_steps seat ks n ne none all =
    ap (λ (k : Known). k.steps) (step_other (with_joined seat ks) (Join (counts ks)) n ne ∙ joined_at seat.known ks n)
    ∙ rw (none, all) refl

-- a new seat has its number and no steps
pub new_owns : (clock : ClockId) (n : ℕ) → n < clock.plan.seats → Owns (new_clock_seat clock n) n
new_owns clock n h =
    ap (λ (k : Known). k.mine) (get_or-set_same (replicate clock.plan.seats unknown) n (known true []) unknown
    (subst (λ k. n < k) (sym (length-replicate clock.plan.seats unknown)) h))

pub new_own : (clock : ClockId) (n : ℕ) → own (new_clock_seat clock n) ≡ []
new_own clock n = none_owned clock.plan.seats n
  where
    none_owned : (seats m : ℕ) → steps_at (set (replicate seats unknown) m (known true [])) m ≡ []
    none_owned zero m = refl
    none_owned (suc seats) zero = refl
    none_owned (suc seats) (suc m) = none_owned seats m

pub shown_join : (t t' : TableId) (v v' : View) (ks ks' : List Known) (seat : SeatView) → t' ≡ t → v' ≡ join_view v ks →
    ks ≡ ks' → seen_as t v ≡ seat → seen_as t' v' ≡ after_join seat ks'
shown_join t t' v v' ks ks' seat et ev ek is = (λ i. seen_as (et i) (ev i)) ∙ (λ i. after_join (is i) (ek i))

length-new_clock_seats : (clock : ClockId) (n k : ℕ) → length (new_clock_seats clock n k) ≡ k
length-new_clock_seats clock n zero = refl
length-new_clock_seats clock n (suc k) = ap suc (length-new_clock_seats clock (n + 1) k)

-- the seats in reverse order, all of them
pub all_listed : (clock : ClockId) (seats : List SeatView) (k : ℕ) → reverse seats ≡ new_clock_seats clock 0 k →
    length seats ≡ k
all_listed clock seats k e = sym (length-reverse seats) ∙ (ap length e ∙ length-new_clock_seats clock 0 k)

-- what one more step adds to what was drawn, put and counted
pub has_drawn-push : (lane place : ℕ) (ss : List ClockStep) (s : ClockStep) →
    has_drawn lane place (ss ++ s ∷ []) ≡ (has_drawn lane place ss || is_place lane place s)
has_drawn-push lane place [] s = or_nothing (is_place lane place s)
has_drawn-push lane place (x ∷ ss) s =
    ap (λ b. is_place lane place x || b) (has_drawn-push lane place ss s)
    ∙ or_assoc (is_place lane place x) (has_drawn lane place ss) (is_place lane place s)

pub has_put-push : (lane place : ℕ) (ss : List ClockStep) (s : ClockStep) →
    has_put lane place (ss ++ s ∷ []) ≡ (has_put lane place ss || is_put lane place s)
has_put-push lane place [] s = or_nothing (is_put lane place s)
has_put-push lane place (x ∷ ss) s =
    ap (λ b. is_put lane place x || b) (has_put-push lane place ss s)
    ∙ or_assoc (is_put lane place x) (has_put lane place ss) (is_put lane place s)

-- a place that was drawn last
pub drawn_last : (lane place : ℕ) (ss : List ClockStep) → has_drawn lane place (ss ++ Place lane place ∷ []) ≡ true
drawn_last lane place ss =
    has_drawn-push lane place ss (Place lane place)
    ∙ rw (eq-eqb lane lane refl, eq-eqb place place refl) (or_truth (has_drawn lane place ss))

pub fresh_last : (lane place at p : ℕ) (ss : List ClockStep) → has_put lane place ss ≡ false →
    has_put lane place (ss ++ Place at p ∷ []) ≡ false
fresh_last lane place at p ss h = has_put-push lane place ss (Place at p) ∙ rw h refl

-- a step and a join keep what is owned
pub keeps_step : (seat after : SeatView) (st : ClockStep) → Owns seat seat.number → after ≡ after_step seat st →
    Keeps seat after
keeps_step seat after st mine e n h = subst (λ s. Owns s n) (sym e) (owns_step seat st n mine h)

pub keeps_join : (seat after : SeatView) (ks : List Known) → Owns seat seat.number → after ≡ after_join seat ks →
    Keeps seat after
keeps_join seat after ks mine e n h = subst (λ s. Owns s n) (sym e) (owns_join seat ks n mine h)

pub takes_join : (seat other after : SeatView) → Owns seat seat.number → after ≡ after_join seat other.known →
    Keeps other after
takes_join seat other after mine e n h = subst (λ s. Owns s n) (sym e) (owns_joined seat other.known n mine h)
