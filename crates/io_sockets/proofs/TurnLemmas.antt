-- What is in a list of turns, as one comes and one is taken.
use Rattle.std.proofs.Common.{arith, ap, eqb, refl, subst, sym, ◌∙◌, ⊎_elim, ◌≢◌}
use Rattle.std.proofs.lemmas.Bool.{cases_lt, true≢false}
use Rattle.std.proofs.lemmas.Bool.Decides.{eqb_tells}
use Rattle.std.proofs.lemmas.List.{get_or-replicate, get_or-set_other, get_or-set_same, get_or_past, length-replicate, length-set, length_push}
use Rattle.std.proofs.lemmas.List.Folds.{sum_by-replicate}
use Rattle.std.proofs.lemmas.List.Sums.{sum_by-cons, sum_by-set}
use Rattle.std.specs.Prelude.{◌≡◌, ◌<◌, ◌≤◌, ℕ, suc, ◌+◌, ◌==◌, ◌&&◌, Bool, true, false, List, [], ◌∷◌, ◌++◌, length, replicate, if◌then◌else◌}
use Rattle.std.specs.List.{slice_set, sum_by}
use Rattle.io_rules.specs.Room.{one_if}
use Rattle.io_rules.proofs.TotalLemmas.{same}
use Rattle.io_sockets.specs.declared.turn.Listed.{Listed}
use Rattle.io_sockets.specs.declared.turn.Turn.{Turn}
use Rattle.io_sockets.specs.declared.turn.WaitType.{WaitType}
use Rattle.io_sockets.specs.declared.turn.WaitType.TheVariants as wait
use Rattle.io_sockets.specs.Turns.{IsTurnList, TurnList, flag, flagged, flags_in, is_listed, listed_at, same_wait, times, turn_in, unlisted, with_flag}

times-push : (way : WaitType) (n : ℕ) (ring : List Turn) (turn : Turn) →
    times way n (ring ++ turn ∷ []) ≡ times way n ring + turn_in way n turn
times-push way n [] turn = omega arith
times-push way n (x ∷ ring) turn = let rest = times-push way n ring turn in omega (arith, rest)

both_flags : (w way : WaitType) (b : Bool) (l : Listed) →
    flag way (with_flag w b l) ≡ (if same_wait w way then b else flag way l)
both_flags wait.Read wait.Read b l = refl
both_flags wait.Read wait.Write b l = refl
both_flags wait.Write wait.Read b l = refl
both_flags wait.Write wait.Write b l = refl

one_and : (c : Bool) → (c && true) ≡ c
one_and true = refl
one_and false = refl

none_and : (c : Bool) → (c && false) ≡ false
none_and true = refl
none_and false = refl

-- a flag behind a change of one flag
flag_at : (w way : WaitType) (b : Bool) (listed : List Listed) (p n : ℕ) → p < length listed →
    flag way (listed_at (slice_set listed p (with_flag w b (listed_at listed p))) n)
    ≡ (if same_wait w way && (p == n) then b else flag way (listed_at listed n))
flag_at w way b listed p n within =
    ⊎_elim
    (λ (t : (eqb p n ≡ true) × (p ≡ n)).
    ap (flag way)
    (subst (λ k. listed_at (slice_set listed p (with_flag w b (listed_at listed p))) k ≡ with_flag w b (listed_at listed p)) t.1
    (get_or-set_same listed p (with_flag w b (listed_at listed p)) unlisted within))
    ∙ both_flags w way b (listed_at listed p)
    ∙ ap (λ k. if same_wait w way then b else flag way (listed_at listed k)) t.1
    ∙ sym (ap (λ c. if c then b else flag way (listed_at listed n)) (ap (λ c. same_wait w way && c) t.0 ∙ one_and (same_wait w way))))
    (λ (t : (eqb p n ≡ false) × (p ≢ n)).
    ap (flag way) (get_or-set_other listed p n (with_flag w b (listed_at listed p)) unlisted (λ is. t.1 (sym is)))
    ∙ sym (ap (λ c. if c then b else flag way (listed_at listed n)) (ap (λ c. same_wait w way && c) t.0 ∙ none_and (same_wait w way))))
    (eqb_tells p n)

same_flag : (w way : WaitType) (listed : List Listed) (p n : ℕ) → (same_wait w way && (p == n)) ≡ true →
    flag way (listed_at listed n) ≡ flag w (listed_at listed p)
same_flag w way listed p n is =
    ⊎_elim (λ (t : (eqb p n ≡ true) × (p ≡ n)). by_wait w way (sym (ap (λ c. same_wait w way && c) t.0 ∙ one_and (same_wait w way)) ∙ is) t.1)
    (λ (t : (eqb p n ≡ false) × (p ≢ n)).
    absurd (true≢false (sym is ∙ ap (λ c. same_wait w way && c) t.0 ∙ none_and (same_wait w way))))
    (eqb_tells p n)
  where
    by_wait : (w way : WaitType) → same_wait w way ≡ true → p ≡ n → flag way (listed_at listed n) ≡ flag w (listed_at listed p)
    by_wait wait.Read wait.Read is same = ap (λ k. (listed_at listed k).read) (sym same)
    by_wait wait.Read wait.Write is same = absurd (true≢false (sym is))
    by_wait wait.Write wait.Read is same = absurd (true≢false (sym is))
    by_wait wait.Write wait.Write is same = ap (λ k. (listed_at listed k).write) (sym same)

pushed_case : (c f : Bool) (k : ℕ) → (c ≡ true → f ≡ false) → k ≡ one_if f → k + one_if c ≡ one_if (if c then true else f)
pushed_case true f k isnt is = let none = is ∙ ap one_if (isnt refl) in omega (arith, none)
pushed_case false f k isnt is = omega (arith, is)

taken_case : (c f : Bool) (k : ℕ) → one_if c + k ≡ one_if f → k ≡ one_if (if c then false else f)
taken_case true true k is = omega (arith, is)
taken_case true false k is = absurd (omega (arith, is))
taken_case false f k is = omega (arith, is)

self_same : (w : WaitType) (p : ℕ) → (same_wait w w && (p == p)) ≡ true
self_same wait.Read p = same p
self_same wait.Write p = same p

flags_moved : (w : WaitType) (b : Bool) (l : Listed) → flags_in (with_flag w b l) + one_if (flag w l) ≡ flags_in l + one_if b
flags_moved wait.Read b l = omega arith
flags_moved wait.Write b l = omega arith

most_one : (b : Bool) → one_if b ≤ 1
most_one true = omega arith
most_one false = omega arith

sum_most : (listed : List Listed) → sum_by flags_in listed ≤ length listed + length listed
sum_most [] = omega arith
sum_most (l ∷ listed) =
    let rest = sum_most listed in let first = sum_by-cons flags_in l listed in
    let one = most_one l.read in let two = most_one l.write in
    omega (arith, rest, first, one, two)

counted : (listed : List Listed) (w : WaitType) (p : ℕ) (a b : Bool) → p < length listed →
    flag w (listed_at listed p) ≡ a →
    sum_by flags_in (slice_set listed p (with_flag w b (listed_at listed p))) + one_if a ≡ sum_by flags_in listed + one_if b
counted listed w p a b within was =
    let step = sum_by-set flags_in listed p (with_flag w b (listed_at listed p)) unlisted within in
    let moved = flags_moved w b (listed_at listed p) in let old = ap one_if was in
    omega (arith, step, moved, old)

-- room for one more, that isn't in the list
pub room_for : (capacity : ℕ) (t : TurnList) (turn : Turn) → IsTurnList capacity t → turn.place < length t.listed →
    is_listed t turn ≡ false → length t.ring < capacity
room_for capacity t turn are within isnt =
    let step = counted t.listed turn.wait turn.place false true within isnt in
    let most = sum_most (flagged turn true t.listed) in
    let many = length-set t.listed turn.place (with_flag turn.wait true (listed_at t.listed turn.place)) in
    let all = are.all in let memory = are.memory in
    omega (arith, step, most, many, all, memory)

pub turn_more : (capacity : ℕ) (t : TurnList) (turn : Turn) → IsTurnList capacity t → turn.place < length t.listed →
    is_listed t turn ≡ false →
    IsTurnList capacity (record { ring = t.ring ++ turn ∷ []; listed = flagged turn true t.listed })
turn_more capacity t turn are within isnt =
    let step = counted t.listed turn.wait turn.place false true within isnt in
    let many = length-set t.listed turn.place (with_flag turn.wait true (listed_at t.listed turn.place)) in
    let all = are.all in let memory = are.memory in let longer = length_push t.ring turn in
    record {
      once = λ way n.
          times-push way n t.ring turn
          ∙ pushed_case (same_wait turn.wait way && (turn.place == n)) (flag way (listed_at t.listed n)) (times way n t.ring)
          (λ is. same_flag turn.wait way t.listed turn.place n is ∙ isnt) (are.once way n)
          ∙ sym (ap one_if (flag_at turn.wait way true t.listed turn.place n within));
      all = omega (arith, step, all, longer);
      memory = omega (arith, memory, many);
    }

only_one : (b : Bool) (n : ℕ) → suc n ≡ one_if b → b ≡ true
only_one true n is = refl
only_one false n is = absurd (omega (arith, is))

-- the first is listed
pub first_listed : (turn : Turn) (ring : List Turn) (listed : List Listed) (capacity : ℕ) →
    IsTurnList capacity (record { ring = turn ∷ ring; listed = listed }) → flag turn.wait (listed_at listed turn.place) ≡ true
first_listed turn ring listed capacity are =
    let one = ap one_if (self_same turn.wait turn.place) in let all = are.once turn.wait turn.place in
    only_one (flag turn.wait (listed_at listed turn.place)) (times turn.wait turn.place ring) (omega (arith, one, all))

none_past : (w : WaitType) (listed : List Listed) (p : ℕ) → length listed ≤ p → flag w (listed_at listed p) ≡ false
none_past wait.Read listed p le = ap (λ l. l.read) (get_or_past listed p unlisted le)
none_past wait.Write listed p le = ap (λ l. l.write) (get_or_past listed p unlisted le)

pub first_within : (turn : Turn) (ring : List Turn) (listed : List Listed) (capacity : ℕ) →
    IsTurnList capacity (record { ring = turn ∷ ring; listed = listed }) → turn.place < length listed
first_within turn ring listed capacity are =
    ⊎_elim (λ (lt : turn.place < length listed). lt)
    (λ (le : length listed ≤ turn.place).
    absurd
    (true≢false (sym (first_listed turn ring listed capacity are) ∙ none_past turn.wait listed turn.place le)))
    (cases_lt turn.place (length listed))

pub turn_less : (turn : Turn) (ring : List Turn) (listed : List Listed) (capacity : ℕ) →
    IsTurnList capacity (record { ring = turn ∷ ring; listed = listed }) →
    IsTurnList capacity (record { ring = ring; listed = flagged turn false listed })
turn_less turn ring listed capacity are =
    let within = first_within turn ring listed capacity are in
    let step = counted listed turn.wait turn.place true false within (first_listed turn ring listed capacity are) in
    let many = length-set listed turn.place (with_flag turn.wait false (listed_at listed turn.place)) in
    let all = are.all in let memory = are.memory in
    record {
      once = λ way n.
          taken_case (same_wait turn.wait way && (turn.place == n)) (flag way (listed_at listed n)) (times way n ring)
          (are.once way n)
          ∙ sym (ap one_if (flag_at turn.wait way false listed turn.place n within));
      all = omega (arith, step, all);
      memory = omega (arith, memory, many);
    }

pub none_listed : (b : Bool) → 0 ≡ one_if b → b ≡ false
none_listed true is = absurd (omega (arith, is))
none_listed false is = refl

new_flag : (way : WaitType) (places n : ℕ) → flag way (listed_at (replicate places unlisted) n) ≡ false
new_flag way places n =
    ⊎_elim
    (λ (lt : n < places). ap (flag way) (get_or-replicate places n unlisted unlisted lt) ∙ new_one way)
    (λ (le : places ≤ n).
    let many = length-replicate places unlisted in
    none_past way (replicate places unlisted) n (omega (arith, le, many)))
    (cases_lt n places)
  where
    new_one : (way : WaitType) → flag way unlisted ≡ false
    new_one wait.Read = refl
    new_one wait.Write = refl

pub no_turns_yet : (capacity places : ℕ) → places + places ≤ capacity →
    IsTurnList capacity (record { ring = []; listed = replicate places unlisted })
no_turns_yet capacity places memory =
    let many = length-replicate places unlisted in let each = sum_by-replicate flags_in places unlisted in
    record {
      once = λ way n. sym (ap one_if (new_flag way places n));
      all = omega (arith, each);
      memory = omega (arith, memory, many);
    }
