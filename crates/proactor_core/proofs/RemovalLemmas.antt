-- A wait leaves the queue of timers.
use Rattle.std.proofs.Common.{◌≡◌, ◌≢◌, ℕ, ◌+◌, ◌-◌, ◌<◌, ◌≤◌, ◌==◌, Bool, true, false, not, List, [], ◌∷◌, length, map, filter, get_or, set, refl, ap, sym, subst, ◌∙◌, arith, inl, inr}
use Rattle.std.specs.Bool.{OnTrue}
use Rattle.std.specs.List.{All, Any}
use Rattle.std.proofs.lemmas.Bool.{cases_eq, false_from_ne_true}
use Rattle.std.proofs.lemmas.Bool.Decides.{nat_tests}
use Rattle.std.proofs.lemmas.List.{length-set}
use Rattle.std.proofs.lemmas.List.Elements.{All-filter, Contains-get_or, filter_passes}
use Rattle.std.proofs.lemmas.List.Filters.{length-filter_both}
use Rattle.history_rules.specs.Performing.{aborted, is_wait_for, is_wait_of}
use Rattle.history_rules.specs.Settling.{sorted_by}
use Rattle.history_rules.specs.declared.wait.Wait.{Wait}
use Rattle.timer_queue.specs.declared.entry.TimerEntry.{TimerEntry}
use Rattle.timer_queue.specs.Queue.{Timers}
use Rattle.timer_queue.proofs.OrderLemmas.{is_other}
use Rattle.proactor_core.specs.Waits.{IsAccepted, IsWaits, TakesFirstOf, Waiting, expiry_of_entry, is_entry_for, ops_of, serial_of, waits_of, without}
use Rattle.proactor_core.proofs.FilterLemmas.{fewer-pass, filter-all, filter-comm, filter-map, filter-no, filter-none, none-passes, only-one}
use Rattle.proactor_core.proofs.SortingLemmas.{filter-sorted_by}
use Rattle.proactor_core.proofs.WaitLemmas.{filter-waits, length-waits, listed-set, once-waits, same-timers, timer-waits}

abbrev is_not_for : ℕ → Wait → Bool
is_not_for op wait = not (is_wait_for op wait)

other-wait : (timers : List ℕ) (op t : ℕ) (x : Wait) → is_wait_of t x ≡ true → x.timer ≡ get_or timers x.op 0 →
    t ≢ get_or timers op 0 → is_not_for op x ≡ true
other-wait timers op t x passes timer other =
    elim (cases_eq x.op op) [
      | inl same ↦
          let is : x.timer ≡ t = grind (arith, nat_tests) in
          absurd (other (sym is ∙ timer ∙ ap (λ n. get_or timers n 0) same))
      | inr apart ↦ grind (arith, nat_tests)
    ]

module _ (timers : List ℕ) (op : ℕ) (q : List TimerEntry) where
  pub waits-rest : waits_of timers (filter (is_other op) q) ≡ filter (is_not_for op) (waits_of timers q)
  waits-rest = sym (filter-waits timers (is_not_for op) q)

  of-rest : (t : ℕ) →
      filter (is_wait_of t) (waits_of timers (filter (is_other op) q))
      ≡ filter (is_not_for op) (filter (is_wait_of t) (waits_of timers q))
  of-rest t = ap (filter (is_wait_of t)) waits-rest ∙ filter-comm (is_wait_of t) (is_not_for op) (waits_of timers q)

  -- another timer keeps its operations
  pub ops-other : (t : ℕ) → t ≢ get_or timers op 0 → ops_of t timers (filter (is_other op) q) ≡ ops_of t timers q
  ops-other t other =
      let of : List Wait = filter (is_wait_of t) (waits_of timers q) in
      let passes = filter_passes (is_wait_of t) (waits_of timers q) in
      let timer =
      All-filter (is_wait_of t) (λ wait. wait.timer ≡ get_or timers wait.op 0) (waits_of timers q) (timer-waits timers q) in
      let all : All (λ wait. is_not_for op wait ≡ true) of = λ k d b.
      other-wait timers op t (get_or of k d) (passes k d b) (timer k d b) other in
      ap (map (λ wait. wait.op)) (of-rest t ∙ filter-all (is_not_for op) of all)

  -- its own timer keeps the others
  pub ops-rest : (t : ℕ) → ops_of t timers (filter (is_other op) q) ≡ filter (λ n. not (n == op)) (ops_of t timers q)
  ops-rest t =
      ap (map (λ wait. wait.op)) (of-rest t)
      ∙ sym (filter-map (λ n. not (n == op)) (λ (wait : Wait). wait.op) (filter (is_wait_of t) (waits_of timers q)))

-- a queue without one wait that was there
module _ (expiries timers : List ℕ) (queue : Timers) (queues : List (List ℕ)) (accepted pending op : ℕ)
    (is : IsWaits expiries timers queue queues accepted pending)
    (there : length (filter (is_entry_for op) queue.waits) ≡ 1) where
  pub fewer : length (filter (is_other op) queue.waits) + 1 ≡ length queue.waits
  fewer =
      let both = length-filter_both (is_entry_for op) (is_other op) (λ e. refl) queue.waits in
      omega arith

  pub removed : (left : List (List ℕ)) → length left ≡ length queues →
      ((t : ℕ) → t < length queues → get_or left t [] ≡ ops_of t timers (filter (is_other op) queue.waits)) →
      IsWaits expiries timers (record { waits = filter (is_other op) queue.waits; spare = queue.spare + 1 }) left
      accepted (pending - 1)
  removed left long listed =
      let count = is.count in
      let room = is.room in
      let less = fewer in
      let lengths = is.lengths in
      let before = is.fewer in
      record {
        in_order =
            ap (sorted_by expiry_of_entry) (sym (filter-sorted_by serial_of (is_other op) queue.waits))
            ∙ sym (filter-sorted_by expiry_of_entry (is_other op) (sorted_by serial_of queue.waits))
            ∙ ap (filter (is_other op)) is.in_order;
        each = All-filter (is_other op) (IsAccepted expiries timers accepted) queue.waits is.each;
        once = λ n.
            let most = is.once n in let part = fewer-pass (is_entry_for n) (is_other op) queue.waits in omega arith;
        count = omega arith;
        room = omega arith;
        listed = λ t b. listed t (omega arith);
        lengths = omega arith;
        fewer = omega arith;
        few = is.few;
        small = is.small;
      }

-- the first wait of a timer, whose operations after it are these
pub record IsFirstOf (timer op : ℕ) (timers : List ℕ) (q : List TimerEntry) (rest : List ℕ) : Type 0 where
  pub here : timer ≡ get_or timers op 0
  pub there : length (filter (is_entry_for op) q) ≡ 1
  pub first : filter (is_wait_of timer) (waits_of timers q)
      ≡ record { op = op; timer = timer } ∷ filter (is_wait_of timer) (waits_of timers (filter (is_other op) q))
  pub after : rest ≡ ops_of timer timers (filter (is_other op) q)

first-step : (timer op : ℕ) (timers : List ℕ) (q : List TimerEntry) (rest : List ℕ) (of : List Wait) →
    ((n : ℕ) → length (filter (is_entry_for n) q) ≤ 1) → filter (is_wait_of timer) (waits_of timers q) ≡ of →
    map (λ wait. wait.op) of ≡ op ∷ rest → IsFirstOf timer op timers q rest
first-step timer op timers q rest [] once is ops = absurd (cc)
first-step timer op timers q rest (w ∷ ws) once is ops =
    let W : List Wait = waits_of timers q in
    let same : w.op ≡ op = cc in
    let others : map (λ wait. wait.op) ws ≡ rest = cc in
    let test : is_wait_for op w ≡ true = grind (arith, nat_tests) in
    let P : List Wait → Type 0 = All (λ wait. is_wait_of timer wait ≡ true) in
    let passes : is_wait_of timer w ≡ true = (subst P is (filter_passes (is_wait_of timer) W)) 0 w (omega arith) in
    let of_timer : w.timer ≡ timer = grind (arith, nat_tests) in
    let T : List Wait → Type 0 = All (λ wait. wait.timer ≡ get_or timers wait.op 0) in
    let by_op : w.timer ≡ get_or timers w.op 0 =
    (subst T is (All-filter (is_wait_of timer) (λ wait. wait.timer ≡ get_or timers wait.op 0) W (timer-waits timers q)))
    0 w (omega arith) in
    let only = only-one (is_wait_for op) W (once-waits timers q once op) w ws (is_wait_of timer) is test in
    let gone : is_not_for op w ≡ false = ap not test in
    let kept : filter (is_wait_of timer) (waits_of timers (filter (is_other op) q)) ≡ ws =
    of-rest timers op q timer ∙ ap (filter (is_not_for op)) is ∙ filter-no (is_not_for op) w ws gone
    ∙ filter-all (is_not_for op) ws (λ k d b. ap not (only.1 k d b)) in
    record {
      here = sym of_timer ∙ by_op ∙ ap (λ n. get_or timers n 0) same;
      there =
          sym (ap length (filter-waits timers (is_wait_for op) q) ∙ length-waits timers (filter (is_entry_for op) q))
          ∙ only.0;
      first = is ∙ head w ws same of_timer ∙ ap (λ l. record { op = op; timer = timer } ∷ l) (sym kept);
      after = sym others ∙ ap (map (λ wait. wait.op)) (sym kept);
    }
  where
    head : (w : Wait) (ws : List Wait) → w.op ≡ op → w.timer ≡ timer → w ∷ ws ≡ record { op = op; timer = timer } ∷ ws
    head w ws e f = rw (← e, ← f) refl

pub first-of : (timer op : ℕ) (timers : List ℕ) (q : List TimerEntry) (rest : List ℕ) →
    ((n : ℕ) → length (filter (is_entry_for n) q) ≤ 1) → ops_of timer timers q ≡ op ∷ rest →
    IsFirstOf timer op timers q rest
first-of timer op timers q rest once ops =
    first-step timer op timers q rest (filter (is_wait_of timer) (waits_of timers q)) once refl ops

-- the only wait of an operation tells that it was cancelled
abort-step : (op : ℕ) (ws : List Wait) → length ws ≡ 1 → All (λ wait. is_wait_for op wait ≡ true) ws →
    map (λ wait. aborted wait.op 0) ws ≡ aborted op 0 ∷ []
abort-step op [] long all = absurd (omega arith)
abort-step op (w ∷ []) long all =
    let test = all 0 w (omega arith) in
    let same : w.op ≡ op = grind (arith, nat_tests) in
    ap (λ n. aborted n 0 ∷ []) same
abort-step op (w ∷ x ∷ ws) long all = absurd (omega arith)

pub abort-one : (timers : List ℕ) (op : ℕ) (q : List TimerEntry) → length (filter (is_entry_for op) q) ≡ 1 →
    map (λ wait. aborted wait.op 0) (filter (is_wait_for op) (waits_of timers q)) ≡ aborted op 0 ∷ []
abort-one timers op q there =
    abort-step op (filter (is_wait_for op) (waits_of timers q))
    (ap length (filter-waits timers (is_wait_for op) q) ∙ length-waits timers (filter (is_entry_for op) q) ∙ there)
    (filter_passes (is_wait_for op) (waits_of timers q))

nothing : {X : Type 0} (xs : List X) → length xs ≡ 0 → xs ≡ []
nothing [] e = refl
nothing (x ∷ xs) e = absurd (omega arith)

-- an operation's entry is there once, or not at all
pub there-once : (op : ℕ) (q : List TimerEntry) → length (filter (is_entry_for op) q) ≤ 1 → Any (λ e. e.op ≡ op) q →
    length (filter (is_entry_for op) q) ≡ 1
there-once op q most any =
    elim (cases_eq (length (filter (is_entry_for op) q)) 0) [
      | inl none ↦
          let fails = none-passes (is_entry_for op) q (nothing (filter (is_entry_for op) q) none) any.0 any.1 any.2 in
          let here : (get_or q any.0 any.1).op ≡ op = ap (λ (e : TimerEntry). e.op) any.3 ∙ any.4 in
          absurd (grind (arith, nat_tests))
      | inr some ↦ omega arith
    ]

pub not-there : (op : ℕ) (q : List TimerEntry) → (Any (λ e. e.op ≡ op) q → ⊥) → All (λ e. is_entry_for op e ≡ false) q
not-there op q none = λ k d b.
    false_from_ne_true (is_entry_for op (get_or q k d)) (λ e.
    let found = Contains-get_or q k d b in
    let same : (get_or q k d).op ≡ op = grind (arith, nat_tests) in
    none (found.0, get_or q k d, found.1, found.2, same))

-- what taking an entry out that is there leaves of the room
pub remove-room : (op : ℕ) (q : List TimerEntry) (r : Bool) (new old : ℕ) → (Any (λ e. e.op ≡ op) q → r ≡ true) →
    OnTrue r (new ≡ old + 1) → length (filter (is_entry_for op) q) ≡ 1 → new ≡ old + 1
remove-room op q true new old answers room there = room
remove-room op q false new old answers room there =
    let fails = not-there op q (λ any. let no : false ≡ true = answers any in absurd (cc)) in
    let none : length (filter (is_entry_for op) q) ≡ 0 = ap length (filter-none (is_entry_for op) q fails) in
    absurd (omega arith)

-- the waits after one has left, and its timer's queue
module _ (expiries timers : List ℕ) (queue : Timers) (queues : List (List ℕ)) (accepted pending op : ℕ)
    (is : IsWaits expiries timers queue queues accepted pending)
    (there : length (filter (is_entry_for op) queue.waits) ≡ 1) where
  pub left-queue : (after : Timers) (t : ℕ) (new : List ℕ) (left : List (List ℕ)) →
      after.waits ≡ filter (is_other op) queue.waits → after.spare ≡ queue.spare + 1 → t ≡ get_or timers op 0 →
      t < length queues → new ≡ ops_of t timers (filter (is_other op) queue.waits) → left ≡ set queues t new →
      IsWaits expiries timers after left accepted (pending - 1)
  left-queue after t new left waits spare of_op within ops written =
      let rest : List TimerEntry = filter (is_other op) queue.waits in
      let long : length left ≡ length queues = ap length written ∙ length-set queues t new in
      let set-listed =
      listed-set queues t new (λ n. ops_of n timers rest) within ops
      (λ n other b. is.listed n b ∙ sym (ops-other timers op queue.waits n (λ e. other (e ∙ sym of_op)))) in
      let all =
      removed expiries timers queue queues accepted pending op is there left long
      (λ n b. ap (λ l. get_or l n []) written ∙ set-listed n b) in
      let P : Timers → Type 0 = λ t. IsWaits expiries timers t left accepted (pending - 1) in
      subst P (sym (same-timers after rest (queue.spare + 1) waits spare)) all

-- what is seen once a wait has left
pub view-rest : (op : ℕ) (expiries timers : List ℕ) (q after : List TimerEntry) (accepted acts : ℕ) (rooms left : List ℕ) →
    after ≡ filter (is_other op) q → left ≡ rooms →
    record { expiries = expiries; waits = waits_of timers after; accepted = accepted; rooms = left; acts = acts }
    ≡ without (is_wait_for op)
    (record { expiries = expiries; waits = waits_of timers q; accepted = accepted; rooms = rooms; acts = acts })
view-rest op expiries timers q after accepted acts rooms left e f =
    let seen : List Wait → List ℕ → Waiting = λ ws rs. record {
      expiries = expiries;
      waits = ws;
      accepted = accepted;
      rooms = rs;
      acts = acts;
    } in
    ap (λ ws. seen ws left) (ap (waits_of timers) e ∙ waits-rest timers op q)
    ∙ ap (seen (filter (is_not_for op) (waits_of timers q))) f

not-of : (timers : List ℕ) (op t : ℕ) (x : Wait) → not (is_wait_of t x) ≡ true → x.timer ≡ get_or timers x.op 0 →
    t ≡ get_or timers op 0 → is_not_for op x ≡ true
not-of timers op t x fails timer of_op =
    elim (cases_eq x.op op) [
      | inl same ↦
          let is : x.timer ≡ t = timer ∙ ap (λ n. get_or timers n 0) same ∙ sym of_op in
          absurd (grind (arith, nat_tests))
      | inr apart ↦ grind (arith, nat_tests)
    ]

-- the first wait of a timer has left
pub takes-first : (timer op : ℕ) (expiries timers : List ℕ) (q after : List TimerEntry) (accepted acts : ℕ)
    (rooms left : List ℕ) (rest : List ℕ) → IsFirstOf timer op timers q rest → after ≡ filter (is_other op) q →
    left ≡ rooms →
    TakesFirstOf timer op
    (record { expiries = expiries; waits = waits_of timers q; accepted = accepted; rooms = rooms; acts = acts })
    (record { expiries = expiries; waits = waits_of timers after; accepted = accepted; rooms = left; acts = acts })
takes-first timer op expiries timers q after accepted acts rooms left rest is e f =
    let W : List Wait = waits_of timers q in
    let of_none : Wait → Bool = λ wait. not (is_wait_of timer wait) in
    let others : List Wait = filter of_none W in
    let seen : waits_of timers after ≡ waits_of timers (filter (is_other op) q) = ap (waits_of timers) e in
    let passes = filter_passes of_none W in
    let of_op = All-filter of_none (λ wait. wait.timer ≡ get_or timers wait.op 0) W (timer-waits timers q) in
    let kept : filter (is_not_for op) others ≡ others =
    filter-all (is_not_for op) others
    (λ k d b. not-of timers op timer (get_or others k d) (passes k d b) (of_op k d b) is.here) in
    let both = length-filter_both (is_entry_for op) (is_other op) (λ e. refl) q in
    let there = is.there in
    let long = length-waits timers q in
    let short = ap length e in
    let left_long = length-waits timers after in
    record {
      first = is.first ∙ ap (λ ws. record { op = op; timer = timer } ∷ filter (is_wait_of timer) ws) (sym seen);
      only = view-rest op expiries timers q after accepted acts rooms left e f;
      once = abort-one timers op q is.there;
      others = ap (filter of_none) (seen ∙ waits-rest timers op q) ∙ filter-comm of_none (is_not_for op) W ∙ kept;
      fewer = omega arith;
    }
