-- The wait that expires first leaves the queue of timers.
use Rattle.std.proofs.Common.{◌≡◌, ◌≢◌, ℕ, ◌+◌, ◌-◌, ◌<◌, ◌≤◌, Bool, true, false, not, cond, List, [], ◌∷◌, length, map, filter, get_or, set, suc, refl, ap, sym, subst, ◌∙◌, arith}
use Rattle.std.specs.List.{All}
use Rattle.std.proofs.lemmas.Bool.Decides.{nat_tests}
use Rattle.std.proofs.lemmas.List.{length-set}
use Rattle.std.proofs.lemmas.List.Elements.{All-filter, All-head, All-tail, filter_passes}
use Rattle.history_rules.specs.Performing.{is_wait_of}
use Rattle.history_rules.specs.Settling.{sorted_by, waited}
use Rattle.history_rules.specs.Waits.{expiry_in}
use Rattle.history_rules.specs.declared.wait.Wait.{Wait}
use Rattle.timer_queue.specs.declared.entry.TimerEntry.{TimerEntry}
use Rattle.timer_queue.specs.Entry.{IsBefore}
use Rattle.timer_queue.specs.Queue.{Timers}
use Rattle.proactor_core.specs.Waits.{IsAccepted, IsWaits, TakesExpired, Waiting, expired, expiry_of_entry, has_expired, is_entry_for, ops_of, serial_of, wait_of, waits_of}
use Rattle.proactor_core.proofs.EntryLemmas.{expiry-first}
use Rattle.proactor_core.proofs.FilterLemmas.{filter-map, filter-no, filter-none, filter-yes}
use Rattle.proactor_core.proofs.SortingLemmas.{All-sorted_by, filter-sorted_by, map-sorted_by, put_by-least}
use Rattle.proactor_core.proofs.WaitLemmas.{filter-waits, length-waits, listed-set, same-timers}

-- whether an entry's timer has expired
abbrev has_come : ℕ → List ℕ → List ℕ → TimerEntry → Bool
has_come now expiries timers e = has_expired now expiries (wait_of timers e)

abbrev HasExpiry : List ℕ → List ℕ → TimerEntry → Type 0
HasExpiry expiries timers e = expiry_in expiries (wait_of timers e) ≡ e.expiry

-- what those tell that have expired, as the queue has them
tells : (now : ℕ) (expiries timers : List ℕ) (q : List TimerEntry) → sorted_by expiry_of_entry (sorted_by serial_of q) ≡ q →
    All (HasExpiry expiries timers) q →
    map waited (sorted_by (expiry_in expiries) (filter (has_expired now expiries) (waits_of timers q)))
    ≡ map waited (map (wait_of timers) (filter (has_come now expiries timers) q))
tells now expiries timers q in_order each =
    let sorted : List TimerEntry = sorted_by serial_of q in
    let come : List TimerEntry = filter (has_come now expiries timers) sorted in
    let all : All (HasExpiry expiries timers) come =
    All-filter (has_come now expiries timers) (HasExpiry expiries timers) sorted
    (All-sorted_by serial_of (HasExpiry expiries timers) q each) in
    ap (λ ws. map waited (sorted_by (expiry_in expiries) ws)) (filter-map (has_expired now expiries) (wait_of timers) sorted)
    ∙ ap (map waited) (sym (map-sorted_by expiry_of_entry (expiry_in expiries) (wait_of timers) come all))
    ∙ ap (λ es. map waited (map (wait_of timers) es)) (sym (filter-sorted_by expiry_of_entry
    (has_come now expiries timers) sorted) ∙ ap (filter (has_come now expiries timers)) in_order)

come-at : (now : ℕ) (expiries timers : List ℕ) (e : TimerEntry) → HasExpiry expiries timers e → e.expiry ≤ now →
    has_come now expiries timers e ≡ true
come-at now expiries timers e is due = grind (arith, nat_tests)

late-at : (now : ℕ) (expiries timers : List ℕ) (e : TimerEntry) → HasExpiry expiries timers e → now < e.expiry →
    has_come now expiries timers e ≡ false
late-at now expiries timers e is late = grind (arith, nat_tests)

-- none has expired
pub none-come : (now : ℕ) (expiries timers : List ℕ) (q : List TimerEntry) → All (HasExpiry expiries timers) q →
    All (λ e. now < e.expiry) q → filter (has_expired now expiries) (waits_of timers q) ≡ []
none-come now expiries timers q each late =
    filter-waits timers (has_expired now expiries) q
    ∙ ap (waits_of timers) (filter-none (has_come now expiries timers) q
    (λ k d b. late-at now expiries timers (get_or q k d) (each k d b) (late k d b)))

-- of one timer's entries, the first by expiry is the first by acceptance
later-serial : (expiries timers : List ℕ) (w e : TimerEntry) → HasExpiry expiries timers w → HasExpiry expiries timers e →
    IsBefore w e → is_wait_of (get_or timers w.op 0) (wait_of timers e) ≡ true → w.serial ≤ e.serial
later-serial expiries timers w e first other before same =
    let timer : get_or timers e.op 0 ≡ get_or timers w.op 0 = grind (arith, nat_tests) in
    let equal : e.expiry ≡ w.expiry = sym other ∙ ap (λ t. get_or expiries t 0) timer ∙ first in
    grind arith

module _ (expiries timers : List ℕ) (w : TimerEntry) (q : List TimerEntry) (first : HasExpiry expiries timers w)
    (each : All (HasExpiry expiries timers) q) (before : All (IsBefore w) q) where
  pub ops-first : ops_of (get_or timers w.op 0) timers (w ∷ q) ≡ w.op ∷ ops_of (get_or timers w.op 0) timers q
  ops-first =
      let t : ℕ = get_or timers w.op 0 in
      let test : TimerEntry → Bool = λ e. is_wait_of t (wait_of timers e) in
      let own : test w ≡ true = grind (arith, nat_tests) in
      let rest : List TimerEntry = filter test q in
      let passes = filter_passes test q in
      let expiries_of = All-filter test (HasExpiry expiries timers) q each in
      let after = All-filter test (IsBefore w) q before in
      let least : All (λ e. w.serial ≤ e.serial) rest = λ k d b.
      later-serial expiries timers w (get_or rest k d) first (expiries_of k d b) (after k d b) (passes k d b) in
      let head : sorted_by serial_of (w ∷ rest) ≡ w ∷ sorted_by serial_of rest =
      put_by-least serial_of w (sorted_by serial_of rest) (All-sorted_by serial_of (λ e. w.serial ≤ e.serial) rest least) in
      ap (map (λ wait. wait.op)) (filter-waits timers (is_wait_of t) (w ∷ q)
      ∙ ap (waits_of timers) (filter-yes test w q own) ∙ ap (map (wait_of timers)) head
      ∙ ap (λ ws. wait_of timers w ∷ ws) (sym (filter-waits timers (is_wait_of t) q)))

  pub ops-apart : (n : ℕ) → n ≢ get_or timers w.op 0 → ops_of n timers (w ∷ q) ≡ ops_of n timers q
  ops-apart n other =
      let test : TimerEntry → Bool = λ e. is_wait_of n (wait_of timers e) in
      let fails : test w ≡ false = grind (arith, nat_tests) in
      ap (map (λ wait. wait.op)) (filter-waits timers (is_wait_of n) (w ∷ q)
      ∙ ap (waits_of timers) (filter-no test w q fails) ∙ sym (filter-waits timers (is_wait_of n) q))

  pub order-rest : sorted_by expiry_of_entry (sorted_by serial_of (w ∷ q)) ≡ w ∷ q →
      sorted_by expiry_of_entry (sorted_by serial_of q) ≡ q
  order-rest in_order =
      let sorted : List TimerEntry = sorted_by serial_of q in
      let split : w ∷ q ≡ w ∷ sorted_by expiry_of_entry sorted =
      sym in_order ∙ expiry-first w sorted (All-sorted_by serial_of (IsBefore w) q before) in
      cc

-- a queue whose first entry has left
module _ (expiries timers : List ℕ) (queue : Timers) (queues : List (List ℕ)) (accepted pending : ℕ)
    (is : IsWaits expiries timers queue queues accepted pending) (w : TimerEntry) (q : List TimerEntry)
    (leaves : queue.waits ≡ w ∷ q) (before : All (IsBefore w) q) where
  split : IsWaits expiries timers (record { waits = w ∷ q; spare = queue.spare }) queues accepted pending
  split =
      let P : Timers → Type 0 = λ t. IsWaits expiries timers t queues accepted pending in
      subst P (same-timers queue (w ∷ q) queue.spare leaves refl) is

  pub first-each : IsAccepted expiries timers accepted w
  first-each = All-head (IsAccepted expiries timers accepted) w q split.each

  rest-each : All (IsAccepted expiries timers accepted) q
  rest-each = All-tail (IsAccepted expiries timers accepted) w q split.each

  rest-expiries : All (HasExpiry expiries timers) q
  rest-expiries = λ k d b. (rest-each k d b).expiry

  pub first-timer : get_or timers w.op 0 < length queues
  first-timer = let b = first-each.timer in let long = is.lengths in omega arith

  pub first-ops : get_or queues (get_or timers w.op 0) [] ≡ w.op ∷ ops_of (get_or timers w.op 0) timers q
  first-ops =
      split.listed (get_or timers w.op 0) first-timer
      ∙ ops-first expiries timers w q first-each.expiry rest-expiries before

  pub some-pending : 1 ≤ pending
  some-pending = let count = split.count in omega arith

  less-once : (n : ℕ) (s : Bool) → length (cond s (w ∷ filter (is_entry_for n) q) (filter (is_entry_for n) q)) ≤ 1 →
      length (filter (is_entry_for n) q) ≤ 1
  less-once n true most = omega arith
  less-once n false most = most

  pub popped : (after : Timers) (new : List ℕ) (left : List (List ℕ)) → after.waits ≡ q →
      after.spare ≡ queue.spare + 1 → new ≡ ops_of (get_or timers w.op 0) timers q →
      left ≡ set queues (get_or timers w.op 0) new → IsWaits expiries timers after left accepted (pending - 1)
  popped after new left waits spare ops written =
      let t : ℕ = get_or timers w.op 0 in
      let listed =
      listed-set queues t new (λ n. ops_of n timers q) first-timer ops
      (λ n other b. split.listed n b ∙ ops-apart expiries timers w q first-each.expiry rest-expiries before n other)
      in
      let long : length left ≡ length queues = ap length written ∙ length-set queues t new in
      let count = split.count in
      let room = is.room in
      let fewer = is.fewer in
      let lengths = is.lengths in
      let P : Timers → Type 0 = λ x. IsWaits expiries timers x left accepted (pending - 1) in
      subst P (sym (same-timers after q (queue.spare + 1) waits spare)) (record {
        in_order = order-rest expiries timers w q first-each.expiry rest-expiries before split.in_order;
        each = rest-each;
        once = λ n. less-once n (is_entry_for n w) (split.once n);
        count = omega arith;
        room = omega arith;
        listed = λ n b. ap (λ l. get_or l n []) written ∙ listed n (omega arith);
        lengths = omega arith;
        fewer = omega arith;
        few = is.few;
        small = is.small;
      })

  -- what is seen of it
  pub takes-expired : (now op : ℕ) (after : List TimerEntry) (acts : ℕ) (rooms left : List ℕ) → w.op ≡ op → w.expiry ≤ now →
      after ≡ q → left ≡ rooms →
      TakesExpired now op
      (record {
        expiries = expiries;
        waits = waits_of timers queue.waits;
        accepted = accepted;
        rooms = rooms;
        acts = acts;
      })
      (record { expiries = expiries; waits = waits_of timers after; accepted = accepted; rooms = left; acts = acts })
  takes-expired now op after acts rooms left of due waits kept =
      let come : TimerEntry → Bool = has_come now expiries timers in
      let here : come w ≡ true = come-at now expiries timers w first-each.expiry due in
      let late : Wait → Bool = λ wait. not (has_expired now expiries wait) in
      let late_one : late (wait_of timers w) ≡ false = ap not here in
      let told : ℕ → Wait = λ n. record { op = n; timer = 0 } in
      let tell : List Wait → List ℕ → Waiting = λ ws rs. record {
        expiries = expiries;
        waits = ws;
        accepted = accepted;
        rooms = rs;
        acts = acts;
      } in
      let old_long = length-waits timers queue.waits in
      let new_long = length-waits timers after in
      let old_count : length queue.waits ≡ suc (length q) = ap length leaves in
      let new_count : length after ≡ length q = ap length waits in
      let seen : waits_of timers queue.waits ≡ waits_of timers (w ∷ q) = ap (waits_of timers) leaves in
      let left_seen : waits_of timers after ≡ waits_of timers q = ap (waits_of timers) waits in
      record {
        first =
            ap (λ ws. expired now (tell ws rooms)) seen
            ∙ tells now expiries timers (w ∷ q) split.in_order (λ k d b. (split.each k d b).expiry)
            ∙ ap (λ es. map waited (map (wait_of timers) es)) (filter-yes come w q here)
            ∙ ap (λ n. waited (told n) ∷ map waited (map (wait_of timers) (filter come q))) of
            ∙ ap (λ cs. waited (told op) ∷ cs) (sym (tells now expiries timers q
            (order-rest expiries timers w q first-each.expiry rest-expiries before split.in_order) rest-expiries))
            ∙ ap (λ ws. waited (told op) ∷ expired now (tell ws left)) (sym left_seen);
        same = ap (tell (waits_of timers after)) kept;
        others =
            ap (filter late) left_seen ∙ filter-waits timers late q
            ∙ ap (waits_of timers) (sym (filter-no (λ e. late (wait_of timers e)) w q late_one))
            ∙ sym (filter-waits timers late (w ∷ q)) ∙ ap (filter late) (sym seen);
        fewer = omega arith;
      }
