-- The laws on the one history.
use Rattle.std.proofs.Common.{◌≡◌, inl, inr, ℕ, ◌+◌, ◌-◌, ◌*◌, ◌%◌, ◌/◌, ◌^◌, ◌<◌, ◌≤◌, List, [], ◌∷◌, ◌++◌, sym, refl, ap, ◌∙◌, subst, arith}
use mathlib.Core.Option.{some}
use lib.ListN.{get_elem?}
use Rattle.lane_clock.specs.declared.found.Change.{Change}
use Rattle.lane_clock.specs.ClockWord.{amount, found_of}
use Rattle.lane_clock.specs.Changes.{up_of, down_of, stop_of, StayParted}
use Rattle.lane_clock.specs.History.{ClockEvent, word_after}
use Rattle.lane_clock.specs.Laws.{StepsAreMade, ClocksCountDraws, DrawsChangeParts}
use Rattle.lane_clock.proofs.MomentLemmas.{Tail, moment_of, sound_tail}
use Rattle.lane_clock.proofs.ClockLemmas.{word_bounded, clock_is}
use Rattle.lane_clock.proofs.LawLemmas.{borrow_of, parts_of}

-- what an older history lacks
newer_of : (a es : List ClockEvent) → Tail a es → (newer : List ClockEvent) × (es ≡ newer ++ a)
newer_of a [] h = ([], sym h)
newer_of a (e ∷ es) (inl h) = ([], sym h)
newer_of a (e ∷ es) (inr h) = let p = newer_of a es h in (e ∷ p.0, ap (λ xs. e ∷ xs) p.1)

pub steps_are_made : StepsAreMade
steps_are_made lists plan last c n i step at =
    let m = moment_of c.history n i step (subst (λ xs. get_elem? xs i ≡ some step) (c.all n) at) in
    let p = newer_of _ c.history m.tail in
    let s = sound_tail plan.guards plan.seats _ c.history m.tail c.sound in
    record { newer = p.0; older = m.older; parts = p.1; index = m.index; sound = s.0; fits = s.2 }

pub clocks_count_draws : ClocksCountDraws
clocks_count_draws guards seats es few sound = clock_is guards seats es few sound

-- a word made of parts has them
parts_again : (clock work stops : ℕ) → clock < 2 ^ 32 → work < 2 ^ 16 → stops < 2 ^ 16 →
    found_of (clock + 2 ^ 32 * work + 2 ^ 48 * stops) ≡ record { clock = clock; work = work; stops = stops }
parts_again clock work stops a b c =
    let x : ℕ = clock + 2 ^ 32 * work + 2 ^ 48 * stops in
    let is : x ≡ clock + 2 ^ 32 * work + 2 ^ 48 * stops = refl in
    let p : x % 2 ^ 32 ≡ clock = omega arith in
    let q : x / 2 ^ 32 % 2 ^ 16 ≡ work = omega arith in
    let r : x / 2 ^ 48 ≡ stops = omega arith in
    λ i. record { clock = p i; work = q i; stops = r i }

-- the word after a draw, by its parts
word_drawn : (change : Change) (w : ℕ) → w < 2 ^ 64 → StayParted change (found_of w) →
    (w + amount change) % 2 ^ 64
    ≡ w % 2 ^ 32 + 1 + 2 ^ 32 * (w / 2 ^ 32 % 2 ^ 16 + up_of change - down_of change)
    + 2 ^ 48 * (w / 2 ^ 48 + stop_of change)
word_drawn change w small stay =
    let clock : ℕ = w % 2 ^ 32 in
    let work : ℕ = w / 2 ^ 32 % 2 ^ 16 in
    let stops : ℕ = w / 2 ^ 48 in
    let parts : w ≡ clock + 2 ^ 32 * work + 2 ^ 48 * stops = omega arith in
    let sum : amount change + 2 ^ 32 * down_of change
    ≡ 1 + 2 ^ 32 * up_of change + 2 ^ 48 * stop_of change + 2 ^ 64 * borrow_of change = parts_of change in
    let a : clock + 1 < 2 ^ 32 = stay.clock in
    let b : down_of change ≤ work + up_of change = stay.down in
    let c : work + up_of change - down_of change < 2 ^ 16 = stay.work in
    let d : stops + stop_of change < 2 ^ 16 = stay.stops in
    let left : ℕ = work + up_of change - down_of change in
    let taken : left + down_of change ≡ work + up_of change = omega arith in
    let next : ℕ = clock + 1 + 2 ^ 32 * left + 2 ^ 48 * (stops + stop_of change) in
    let fits : next < 2 ^ 64 = omega arith in
    let whole : w + amount change ≡ next + 2 ^ 64 * borrow_of change = omega arith in
    omega arith

pub draws_change_parts : DrawsChangeParts
draws_change_parts guards es n shown change found few stay =
    let w : ℕ = word_after guards es in
    ap found_of (word_drawn change w (word_bounded guards few es) stay)
    ∙ parts_again (w % 2 ^ 32 + 1) (w / 2 ^ 32 % 2 ^ 16 + up_of change - down_of change) (w / 2 ^ 48 + stop_of change)
    stay.clock stay.work stay.stops
