-- No log needs room for more entries than a seat may draw: each act stands in one place, so all
-- branches together show what the acts show.
use Rattle.std.proofs.Common.{◌≡◌, ◌⊎◌, ℕ, zero, suc, ◌+◌, ◌*◌, ◌<◌, ◌≤◌, Bool, true, false, cond, inl, inr, List, [], ◌∷◌, None, Some, get_or, length, take, refl, sym, ap, subst, ◌∙◌, arith}
use Rattle.std.specs.Prelude.{◌==◌, ◌&&◌, EachIndex, nat_eq, slice_set, if◌then◌else◌}
use Rattle.std.specs.List.{sum_by}
use Rattle.std.proofs.lemmas.Bool.{cases_eq, cases_lt, eq-eqb, ne_eqb}
use Rattle.std.proofs.lemmas.List.{get_or-set_other, get_or-set_same, length-set, take_more}
use Rattle.std.proofs.lemmas.List.FromFn.{fill_by_all}
use Rattle.std.proofs.lemmas.List.Sums.{sum_by-append, sum_by-cons, sum_by-take-le}
use Rattle.asio_types.specs.declared.code.Class.{Class}
use Rattle.asio_types.specs.declared.code.Class.TheVariants as class
use Rattle.session_script.specs.Limits.{limits_of}
use Rattle.session_script.specs.Script.{Place, Entry, ScriptModel, is_op, numbers_in, same_class, same_place, stops}
use Rattle.session_script.specs.WellFormed.{IsWellFormed}
use Rattle.session_script.proofs.PlacesLemmas.{acts_allowed}
use Rattle.strand_core.specs.Room.{room_for, shown_by_handler, shown_in}
use Rattle.strand_core.proofs.TreeLemmas.{among_at, among_within}
use Rattle.reactor_turns.proofs.SummingLemmas.{summed, summed-both, summed-less, summed-range}
use Rattle.lane_map.specs.LaneNumbers.{has_own_lane, home_lane, is_op_on, lane_list, reactor_lane}
use Rattle.lane_map.proofs.CountLemmas.{passing_fits}
use Rattle.lane_map.proofs.NumberLemmas.{lane_count}
use Rattle.lane_logs.specs.Stand.{draws_of_call, first_stand}
use Rattle.lane_turns.specs.Firsts.{RoomsFit}
use Rattle.lane_turns.specs.Rooms.{lane_room, lane_rooms}

-- the acts of one place, each with at most three
numbers_by : (w : ℕ → ℕ) (here : Bool) (n k : ℕ) (rest : List ℕ) → w n ≤ 3 → sum_by w rest ≤ 3 * k →
    sum_by w (cond here (n ∷ rest) rest) ≤ 3 * suc k
numbers_by w true n k rest few less = omega (arith, few, less, sum_by-cons w n rest)
numbers_by w false n k rest few less = omega (arith, less)

pub numbers_most : (w : ℕ → ℕ) → ((m : ℕ) → w m ≤ 3) → (place : Place) (n : ℕ) (es : List Entry) →
    sum_by w (numbers_in place n es) ≤ 3 * length es
numbers_most w few place n [] = omega arith
numbers_most w few place n (e ∷ es) =
    numbers_by w (same_place place e.parent) n (length es) (numbers_in place (n + 1) es) (few n)
    (numbers_most w few place (n + 1) es)

pub numbers_count : (place : Place) (n : ℕ) (es : List Entry) → length (numbers_in place n es) ≤ length es
numbers_count place n [] = omega arith
numbers_count place n (e ∷ es) =
    by_test (same_place place e.parent) (numbers_in place (n + 1) es) (numbers_count place (n + 1) es)
  where
    by_test : (here : Bool) (rest : List ℕ) → length rest ≤ length es →
        length (cond here (n ∷ rest) rest) ≤ suc (length es)
    by_test true rest less = omega (arith, less)
    by_test false rest less = omega (arith, less)

-- the acts of all branches of an operation
abbrev branches : (ℕ → ℕ) → ℕ → List Entry → ℕ → ℕ
branches w n es op =
    sum_by w (numbers_in (Some (op, class.Ok)) n es) + sum_by w (numbers_in (Some (op, class.Abort)) n es)
    + sum_by w (numbers_in (Some (op, class.Other)) n es)

abbrev three_if : Bool → ℕ
three_if b = cond b 3 0

-- three, for the operation in whose branch an act stands
abbrev owner : Place → ℕ → ℕ
owner None op = 0
owner (Some at) op = three_if (op == at.0)

branch_by : (w : ℕ → ℕ) (n : ℕ) (first second third : List ℕ) (own : Bool) (c : Class) → w n ≤ 3 →
    sum_by w (cond (own && same_class class.Ok c) (n ∷ first) first)
    + sum_by w (cond (own && same_class class.Abort c) (n ∷ second) second)
    + sum_by w (cond (own && same_class class.Other c) (n ∷ third) third)
    ≤ three_if own + (sum_by w first + sum_by w second + sum_by w third)
branch_by w n first second third true class.Ok few = omega (arith, few, sum_by-cons w n first)
branch_by w n first second third true class.Abort few = omega (arith, few, sum_by-cons w n second)
branch_by w n first second third true class.Other few = omega (arith, few, sum_by-cons w n third)
branch_by w n first second third false c few = omega arith

branch_at : (w : ℕ → ℕ) (n op : ℕ) (parent : Place) (first second third : List ℕ) → w n ≤ 3 →
    sum_by w (cond (same_place (Some (op, class.Ok)) parent) (n ∷ first) first)
    + sum_by w (cond (same_place (Some (op, class.Abort)) parent) (n ∷ second) second)
    + sum_by w (cond (same_place (Some (op, class.Other)) parent) (n ∷ third) third)
    ≤ owner parent op + (sum_by w first + sum_by w second + sum_by w third)
branch_at w n op None first second third few = omega arith
branch_at w n op (Some at) first second third few = branch_by w n first second third (op == at.0) at.1 few

abbrev three_at : ℕ → ℕ → ℕ
three_at a m = three_if (m == a)

owner_before : (a n : ℕ) → n ≤ a → summed (three_at a) n ≡ 0
owner_before a zero less = refl
owner_before a (suc n) less =
    let rest = owner_before a n (omega (arith, less)) in
    let here : three_at a n ≡ 0 =
    ap three_if (ne_eqb n a (λ same. absurd (omega (arith, same, less)))) in
    omega (arith, rest, here)

three_most : (b : Bool) → three_if b ≤ 3
three_most true = omega arith
three_most false = omega arith

owner_one : (a n : ℕ) → summed (three_at a) n ≤ 3
owner_one a zero = omega arith
owner_one a (suc n) = elim (cases_eq n a) [
  | inl same ↦
      let rest = owner_before a n (omega (arith, same)) in
      let here = three_most (n == a) in omega (arith, rest, here)
  | inr differ ↦
      let rest = owner_one a n in
      let here : three_at a n ≡ 0 = ap three_if (ne_eqb n a differ) in omega (arith, rest, here)
]

summed_same : (k n : ℕ) → summed (λ m. k) n ≡ k * n
summed_same k zero = omega arith
summed_same k (suc n) = let rest = summed_same k n in omega (arith, rest)

owner_most : (parent : Place) (n : ℕ) → summed (owner parent) n ≤ 3
owner_most None n = let none = summed_same 0 n in omega (arith, none)
owner_most (Some at) n = owner_one at.0 n

branches_most : (w : ℕ → ℕ) → ((m : ℕ) → w m ≤ 3) → (n : ℕ) (es : List Entry) (k : ℕ) →
    summed (branches w n es) k ≤ 3 * length es
branches_most w few n [] k = let none = summed_same 0 k in omega (arith, none)
branches_most w few n (e ∷ es) k =
    let step =
    summed-less (branches w n (e ∷ es)) (λ op. owner e.parent op + branches w (n + 1) es op) k
    (λ op. branch_at w n op e.parent (numbers_in (Some (op, class.Ok)) (n + 1) es)
    (numbers_in (Some (op, class.Abort)) (n + 1) es) (numbers_in (Some (op, class.Other)) (n + 1) es) (few n)) in
    let parts = summed-both (owner e.parent) (branches w (n + 1) es) k in
    let one = owner_most e.parent k in
    let rest = branches_most w few (n + 1) es k in
    omega (arith, step, parts, one, rest)

-- what a call shows with its back
abbrev shown_by_call : ScriptModel → ℕ → ℕ
shown_by_call script act = 2 + (if stops script act then 1 else 0)

two_or_three : (b : Bool) → 2 + (if b then 1 else 0) ≤ 3
two_or_three true = omega arith
two_or_three false = omega arith

held_most : (b : Bool) (shown most : ℕ) → shown ≤ most → (if b then shown else 0) ≤ most
held_most true shown most less = less
held_most false shown most less = omega arith

-- all handlers show at most two for themselves and three for each act
pub room_most : (script : ScriptModel) (test : ℕ → Bool) → room_for script test ≤ 5 * length script.acts
room_most script test =
    let each : ℕ → ℕ = branches (shown_by_call script) 0 script.acts in
    let all = summed-range (λ n. if test n then shown_by_handler script n else 0) (length script.acts) in
    let less =
    summed-less (λ n. if test n then shown_by_handler script n else 0) (λ n. 2 + each n) (length script.acts)
    (λ n. held_most (test n) (shown_by_handler script n) (2 + each n) (omega arith)) in
    let parts = summed-both (λ n. 2) each (length script.acts) in
    let two = summed_same 2 (length script.acts) in
    let most = branches_most (shown_by_call script) (λ m. two_or_three (stops script m)) 0 script.acts (length script.acts) in
    omega (arith, all, less, parts, two, most)

call_most : (b : Bool) → (if b then 3 else 2) ≤ 3
call_most true = omega arith
call_most false = omega arith

pub opening_most : (script : ScriptModel) → (first_stand script).opening ≤ 3 * length script.acts
opening_most script =
    numbers_most (draws_of_call script) (λ m. call_most (stops script m)) None 0 script.acts

either_most : (first : Bool) (one other : ℕ) → one ≤ other → cond first one other ≤ other
either_most true one other less = less
either_most false one other less = omega arith

lines_allowed : (version : ℕ) → (limits_of version).lines ≤ 1024
unfolding limits_of
lines_allowed version = either_most (nat_eq version 1) 256 1024 (omega arith)

rounds_allowed : (version : ℕ) → (limits_of version).rounds ≤ 64
unfolding limits_of
rounds_allowed version = either_most (nat_eq version 1) 16 64 (omega arith)

strands_allowed : (version : ℕ) → (limits_of version).strands ≤ 64
unfolding limits_of
strands_allowed version = either_most (nat_eq version 1) 16 64 (omega arith)

pub few_acts : (script : ScriptModel) → IsWellFormed script → length script.acts ≤ 4096
few_acts script well = omega (arith, well.acts.count, acts_allowed script.version)

pub few_lines : (script : ScriptModel) → IsWellFormed script → length script.world.lines ≤ 1024
few_lines script well = omega (arith, well.line_count, lines_allowed script.version)

pub few_rounds : (script : ScriptModel) → IsWellFormed script → length script.rounds ≤ 64
few_rounds script well = omega (arith, well.round_count, rounds_allowed script.version)

pub few_lanes : (script : ScriptModel) → IsWellFormed script → length (lane_list script) ≤ 4161
few_lanes script well =
    omega (
      arith,
      lane_count script,
      passing_fits (has_own_lane script) (length script.acts),
      few_acts script well,
      well.strands,
      strands_allowed script.version,
    )

pub rooms_fit : (script : ScriptModel) → IsWellFormed script → RoomsFit script
rooms_fit script well =
    let acts = few_acts script well in
    let lines = few_lines script well in
    let rounds = few_rounds script well in
    let opening = opening_most script in
    record {
      lanes = λ lane. let most = room_most script (is_op_on script lane) in omega (arith, acts, most);
      reactor = omega (arith, acts, lines);
      workers = omega (arith, rounds);
      opener = omega (arith, acts, rounds, opening);
    }

-- the acts of a place as they are listed
module _ (script : ScriptModel) (place : Place) (acts : List ℕ) (same : acts ≡ numbers_in place 0 script.acts) where
  pub acts_known : EachIndex acts (λ k. get_or acts k 0 < length script.acts)
  acts_known =
      subst (λ xs. EachIndex xs (λ k. get_or xs k 0 < length script.acts)) (sym same)
      (λ k less. among_within script place _ (among_at (numbers_in place 0 script.acts) k less))

  pub acts_few : length acts ≤ length script.acts
  acts_few = omega (arith, ap length same, numbers_count place 0 script.acts)

  pub acts_shown : sum_by (draws_of_call script) acts ≤ 3 * length script.acts
  acts_shown =
      omega (
        arith,
        ap (sum_by (draws_of_call script)) same,
        numbers_most (draws_of_call script) (λ m. call_most (stops script m)) place 0 script.acts,
      )

either_call : (b : Bool) → (if b then 3 else 2) ≡ 2 + (if b then 1 else 0)
either_call true = refl
either_call false = refl

-- what calls show is what they draw
pub drawn_shown : (script : ScriptModel) (acts : List ℕ) → sum_by (draws_of_call script) acts ≡ shown_in script acts
drawn_shown script [] = refl
drawn_shown script (act ∷ acts) =
    let rest = drawn_shown script acts in
    let here = either_call (stops script act) in
    omega (
      arith,
      rest,
      here,
      sum_by-cons (draws_of_call script) act acts,
      sum_by-cons (shown_by_call script) act acts,
    )

-- one act more of a list
pub next_drawn : (script : ScriptModel) (acts : List ℕ) (i : ℕ) → i < length acts →
    sum_by (draws_of_call script) (take i acts) + draws_of_call script (get_or acts i 0) ≤ 3 * length acts
next_drawn script acts i less =
    let more = ap (sum_by (draws_of_call script)) (take_more acts i 0 less) in
    let parts = sum_by-append (draws_of_call script) (take i acts) (get_or acts i 0 ∷ []) in
    let one = sum_by-cons (draws_of_call script) (get_or acts i 0) [] in
    let all = sum_by-take-le (draws_of_call script) acts (i + 1) in
    let most = sum_most acts in
    omega (arith, more, parts, one, all, most)
  where
    sum_most : (acts : List ℕ) → sum_by (draws_of_call script) acts ≤ 3 * length acts
    sum_most [] = omega arith
    sum_most (act ∷ acts) =
        omega (arith, sum_most acts, call_most (stops script act), sum_by-cons (draws_of_call script) act acts)

summed_le : (f : ℕ → ℕ) (m n : ℕ) → m ≤ n → summed f m ≤ summed f n
summed_le f m zero less = let e : m ≡ 0 = omega (arith, less) in omega (arith, ap (summed f) e)
summed_le f m (suc n) less = elim (cases_lt m (suc n)) [
  | inl under ↦ let rest = summed_le f m n (omega (arith, under)) in omega (arith, rest)
  | inr over ↦ let e : m ≡ suc n = omega (arith, less, over) in omega (arith, ap (summed f) e)
]

-- what an act shows on a lane
abbrev pub lane_weight : ScriptModel → ℕ → ℕ → ℕ
lane_weight script lane n = if is_op_on script lane n then shown_by_handler script n else 0

-- of each lane what so many of the first acts show
pub record AreRooms (script : ScriptModel) (count : ℕ) (rooms : List ℕ) : Type 0 where
  pub size : length rooms ≡ reactor_lane script
  pub each : (lane : ℕ) → lane < reactor_lane script →
      get_or rooms lane 0 ≡ summed (lane_weight script lane) count

weight_by : (here same : Bool) (shown : ℕ) → (here ≡ false) ⊎ (same ≡ false) → (if here && same then shown else 0) ≡ 0
weight_by true true shown (inl isnt) = absurd (cc isnt)
weight_by true true shown (inr isnt) = absurd (cc isnt)
weight_by true false shown isnt = refl
weight_by false same shown isnt = refl

module _ (script : ScriptModel) (op : ℕ) (rooms : List ℕ) (are : AreRooms script op rooms) where
  pub rooms_same : is_op script op ≡ false → AreRooms script (op + 1) rooms
  rooms_same isnt =
      record {
        size = are.size;
        each = λ lane less.
            let one : op + 1 ≡ suc op = omega arith in
            let none : lane_weight script lane op ≡ 0 =
            weight_by (is_op script op) (home_lane script op == lane) (shown_by_handler script op) (inl isnt) in
            omega (arith, are.each lane less, none, ap (summed (lane_weight script lane)) one);
      }

  pub rooms_more : (room : ℕ) → is_op script op ≡ true → home_lane script op < reactor_lane script →
      room ≡ get_or rooms (home_lane script op) 0 + shown_by_handler script op →
      AreRooms script (op + 1) (slice_set rooms (home_lane script op) room)
  rooms_more room is less made =
      record {
        size = length-set rooms (home_lane script op) room ∙ are.size;
        each = λ lane within.
            let one : op + 1 ≡ suc op = omega arith in
            let next = ap (summed (lane_weight script lane)) one in
            elim (cases_eq (home_lane script op) lane) [
              | inl same ↦
                  let inside : home_lane script op < length rooms = omega (arith, less, are.size) in
                  let here : get_or (slice_set rooms (home_lane script op) room) (home_lane script op) 0 ≡ room =
                  get_or-set_same rooms (home_lane script op) room 0 inside in
                  let there : get_or (slice_set rooms (home_lane script op) room) lane 0 ≡ room =
                  subst (λ k. get_or (slice_set rooms (home_lane script op) room) k 0 ≡ room) same here in
                  let itself : (home_lane script op == lane) ≡ true = eq-eqb (home_lane script op) lane same in
                  let weight : lane_weight script lane op ≡ shown_by_handler script op = rw (is, itself) refl in
                  let before : get_or rooms (home_lane script op) 0 ≡ get_or rooms lane 0 =
                  ap (λ k. get_or rooms k 0) same in
                  omega (arith, there, made, before, weight, are.each lane within, next)
              | inr differ ↦
                  let other : get_or (slice_set rooms (home_lane script op) room) lane 0 ≡ get_or rooms lane 0 =
                  get_or-set_other rooms (home_lane script op) lane room 0 (λ same. differ (sym same)) in
                  let none : lane_weight script lane op ≡ 0 =
                  weight_by (is_op script op) (home_lane script op == lane) (shown_by_handler script op)
                  (inr (ne_eqb (home_lane script op) lane differ)) in
                  omega (arith, other, none, are.each lane within, next)
            ];
      }

  pub rooms_at : (place was shown : ℕ) → place ≡ home_lane script op → was ≡ get_or rooms place 0 →
      shown ≡ shown_by_handler script op → is_op script op ≡ true → home_lane script op < reactor_lane script →
      AreRooms script (op + 1) (slice_set rooms place (was + shown))
  rooms_at place was shown at read shows is less =
      subst (λ (p : ℕ). AreRooms script (op + 1) (slice_set rooms p (was + shown))) (sym at)
      (rooms_more (was + shown) is less (omega (arith, read, shows, ap (λ p. get_or rooms p 0) at)))

  -- no room is more than a seat may draw
  pub rooms_few : is_op script op ≡ true → home_lane script op < reactor_lane script → op < length script.acts →
      get_or rooms (home_lane script op) 0 + shown_by_handler script op ≤ 5 * length script.acts
  rooms_few is less within =
      let itself : (home_lane script op == home_lane script op) ≡ true =
      eq-eqb (home_lane script op) (home_lane script op) refl in
      let weight : lane_weight script (home_lane script op) op ≡ shown_by_handler script op = rw (is, itself) refl in
      let so_far = are.each (home_lane script op) less in
      let all = summed_le (lane_weight script (home_lane script op)) (suc op) (length script.acts) (omega (arith, within)) in
      let whole = summed-range (lane_weight script (home_lane script op)) (length script.acts) in
      let most = room_most script (is_op_on script (home_lane script op)) in
      omega (arith, weight, so_far, all, whole, most)

pub rooms_all : (script : ScriptModel) (rooms : List ℕ) → AreRooms script (length script.acts) rooms →
    rooms ≡ lane_rooms script
rooms_all script rooms are =
    fill_by_all (lane_room script) rooms (reactor_lane script) 0 are.size
    (λ lane less. are.each lane less ∙ sym (summed-range (lane_weight script lane) (length script.acts)))
