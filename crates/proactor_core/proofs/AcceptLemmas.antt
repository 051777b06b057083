-- A wait is accepted.
use Rattle.std.proofs.Common.{◌≡◌, ◌≢◌, ℕ, ◌+◌, ◌<◌, ◌≤◌, ◌==◌, Bool, true, false, cond, List, [], ◌∷◌, ◌++◌, length, map, filter, get_or, set, zero, suc, refl, ap, sym, subst, ◌∙◌, arith, inl, inr}
use Rattle.std.specs.List.{All}
use Rattle.std.proofs.lemmas.Bool.{cases_eq}
use Rattle.std.proofs.lemmas.Bool.Decides.{nat_tests}
use Rattle.std.proofs.lemmas.List.{append-nil, get_or-set_other, get_or-set_same, length-set, map-append}
use Rattle.std.proofs.lemmas.List.Elements.{All-head, All-tail, filter-append}
use Rattle.history_rules.specs.Performing.{is_wait_of}
use Rattle.history_rules.specs.Settling.{sorted_by}
use Rattle.history_rules.specs.declared.wait.Wait.{Wait}
use Rattle.timer_queue.specs.declared.entry.TimerEntry.{TimerEntry}
use Rattle.timer_queue.specs.Entry.{is_entry_before}
use Rattle.timer_queue.specs.Queue.{Timers, put}
use Rattle.timer_queue.proofs.OrderLemmas.{All-put, put-after, put-before}
use Rattle.proactor_core.specs.Waits.{IsAccepted, IsWaits, Waiting, expiry_of_entry, is_entry_for, ops_of, serial_of, wait_of, waits_of}
use Rattle.proactor_core.proofs.EntryLemmas.{IsOlder, expiry-put, serial-put}
use Rattle.proactor_core.proofs.FilterLemmas.{filter-none, filter-yes}
use Rattle.proactor_core.proofs.SortingLemmas.{All-sorted_by}
use Rattle.proactor_core.proofs.WaitLemmas.{listed-set}

abbrev IsNew : ℕ → TimerEntry → Type 0
IsNew op e = e.op ≢ op

map-same : {X Y : Type 0} (f g : X → Y) (xs : List X) → All (λ x. f x ≡ g x) xs → map f xs ≡ map g xs
map-same f g [] all = refl
map-same f g (x ∷ xs) all =
    ap (λ y. y ∷ map f xs) (All-head (λ y. f y ≡ g y) x xs all)
    ∙ ap (λ ys. g x ∷ ys) (map-same f g xs (All-tail (λ y. f y ≡ g y) x xs all))

swap-counts : (s t : Bool) (e f : TimerEntry) (xs ys : List TimerEntry) → length xs ≡ length (cond s (e ∷ ys) ys) →
    length (cond t (f ∷ xs) xs) ≡ length (cond s (e ∷ cond t (f ∷ ys) ys) (cond t (f ∷ ys) ys))
swap-counts true true e f xs ys h = omega arith
swap-counts true false e f xs ys h = h
swap-counts false true e f xs ys h = omega arith
swap-counts false false e f xs ys h = h

count-step : (test : TimerEntry → Bool) (e f : TimerEntry) (r : List TimerEntry) (t : Bool) → is_entry_before f e ≡ t →
    length (filter test (put e r)) ≡ length (filter test (e ∷ r)) →
    length (filter test (put e (f ∷ r))) ≡ length (filter test (e ∷ f ∷ r))
count-step test e f r true is below =
    ap (λ l. length (filter test l)) (put-before e f r is)
    ∙ swap-counts (test e) (test f) e f (filter test (put e r)) (filter test r) below
count-step test e f r false is below = ap (λ l. length (filter test l)) (put-after e f r is)

-- an entry that is put among others counts once
pub count-put : (test : TimerEntry → Bool) (e : TimerEntry) (q : List TimerEntry) →
    length (filter test (put e q)) ≡ length (filter test (e ∷ q))
count-put test e [] = refl
count-put test e (f ∷ r) = count-step test e f r (is_entry_before f e) refl (count-put test e r)

long-step : (e f : TimerEntry) (r : List TimerEntry) (t : Bool) → is_entry_before f e ≡ t → length (put e r) ≡ suc (length r) →
    length (put e (f ∷ r)) ≡ suc (suc (length r))
long-step e f r true is below = ap length (put-before e f r is) ∙ ap suc below
long-step e f r false is below = ap length (put-after e f r is)

length-put : (e : TimerEntry) (q : List TimerEntry) → length (put e q) ≡ suc (length q)
length-put e [] = refl
length-put e (f ∷ r) = long-step e f r (is_entry_before f e) refl (length-put e r)

-- a timer's operation takes the place of another's
module _ (expiries timers : List ℕ) (accepted op timer : ℕ) (within : op < length timers) where
  wait-same : (e : TimerEntry) → IsNew op e → wait_of (set timers op timer) e ≡ wait_of timers e
  wait-same e new =
      let same = get_or-set_other timers op e.op timer 0 new in
      let f : ℕ → Wait = λ t. record { op = e.op; timer = t } in
      ap f same

  each-same : (e : TimerEntry) → IsNew op e → IsAccepted expiries timers accepted e →
      IsAccepted expiries (set timers op timer) (accepted + 1) e
  each-same e new is =
      let same = get_or-set_other timers op e.op timer 0 new in
      let serial = is.serial in
      let place = is.op in
      let long = length-set timers op timer in
      record {
        serial = omega arith;
        op = omega arith;
        timer = let P : ℕ → Type 0 = λ t. t < length expiries in subst P (sym same) is.timer;
        expiry = ap (λ t. get_or expiries t 0) same ∙ is.expiry;
      }

  each-new : timer < length expiries → (e : TimerEntry) → e.serial ≡ accepted → e.op ≡ op →
      e.expiry ≡ get_or expiries timer 0 → IsAccepted expiries (set timers op timer) (accepted + 1) e
  each-new b e serial same expiry =
      let here : get_or (set timers op timer) e.op 0 ≡ timer =
      ap (λ n. get_or (set timers op timer) n 0) same ∙ get_or-set_same timers op timer 0 within in
      let long = length-set timers op timer in
      record {
        serial = omega arith;
        op = omega arith;
        timer = let P : ℕ → Type 0 = λ t. t < length expiries in subst P (sym here) b;
        expiry = ap (λ t. get_or expiries t 0) here ∙ sym expiry;
      }

  -- the waits with one more
  pub waits-put : (e : TimerEntry) (q : List TimerEntry) → e.op ≡ op → All (IsOlder e) q → All (IsNew op) q →
      waits_of (set timers op timer) (put e q) ≡ waits_of timers q ++ record { op = op; timer = timer } ∷ []
  waits-put e q same older new =
      let after : List ℕ = set timers op timer in
      let sorted : List TimerEntry = sorted_by serial_of q in
      let here : get_or after e.op 0 ≡ timer =
      ap (λ n. get_or after n 0) same ∙ get_or-set_same timers op timer 0 within in
      let wait : ℕ → ℕ → Wait = λ n t. record { op = n; timer = t } in
      let last : wait_of after e ≡ wait op timer = ap (λ n. wait n (get_or after e.op 0)) same ∙ ap (wait op) here in
      let front : map (wait_of after) sorted ≡ map (wait_of timers) sorted =
      map-same (wait_of after) (wait_of timers) sorted
      (λ k d b. wait-same (get_or sorted k d) (All-sorted_by serial_of (IsNew op) q new k d b)) in
      ap (map (wait_of after)) (serial-put e q older) ∙ map-append (wait_of after) sorted (e ∷ [])
      ∙ ap (λ ws. ws ++ wait_of after e ∷ []) front ∙ ap (λ w. map (wait_of timers) sorted ++ w ∷ []) last

own-test : (t n : ℕ) → t ≡ n → (n == t) ≡ true
own-test t n same = grind (arith, nat_tests)

other-test : (t n : ℕ) → t ≢ n → (n == t) ≡ false
other-test t n other = grind (arith, nat_tests)

-- a queue with one wait more
module _ (expiries timers : List ℕ) (queue : Timers) (queues : List (List ℕ)) (accepted pending op timer : ℕ)
    (is : IsWaits expiries timers queue queues accepted pending) (within : op < length timers)
    (new : All (IsNew op) queue.waits) (there : timer < length queues) (e : TimerEntry) (serial : e.serial ≡ accepted)
    (same : e.op ≡ op) (expiry : e.expiry ≡ get_or expiries timer 0) (few : accepted < length timers) where
  older : All (IsOlder e) queue.waits
  older = λ k d b. let each = (is.each k d b).serial in omega arith

  ops-put : (n : ℕ) →
      ops_of n (set timers op timer) (put e queue.waits)
      ≡ map (λ wait. wait.op) (filter (is_wait_of n) (waits_of timers queue.waits)
      ++ filter (is_wait_of n) (record { op = op; timer = timer } ∷ []))
  ops-put n =
      ap (λ ws. map (λ wait. wait.op) (filter (is_wait_of n) ws))
      (waits-put expiries timers accepted op timer within e queue.waits same older new)
      ∙ ap (map (λ wait. wait.op))
      (filter-append (is_wait_of n) (waits_of timers queue.waits) (record { op = op; timer = timer } ∷ []))

  ops-own : ops_of timer (set timers op timer) (put e queue.waits) ≡ ops_of timer timers queue.waits ++ op ∷ []
  ops-own =
      let wait : Wait = record { op = op; timer = timer } in
      let of : List Wait = filter (is_wait_of timer) (waits_of timers queue.waits) in
      ops-put timer
      ∙ ap (λ ws. map (λ w. w.op) (of ++ ws)) (filter-yes (is_wait_of timer) wait [] (own-test timer timer refl))
      ∙ map-append (λ (w : Wait). w.op) of (wait ∷ [])

  ops-others : (n : ℕ) → n ≢ timer → ops_of n (set timers op timer) (put e queue.waits) ≡ ops_of n timers queue.waits
  ops-others n other =
      let wait : Wait = record { op = op; timer = timer } in
      let of : List Wait = filter (is_wait_of n) (waits_of timers queue.waits) in
      ops-put n
      ∙ ap (λ ws. map (λ w. w.op) (of ++ ws)) (filter-none (is_wait_of n) (wait ∷ []) (λ k d b. only-last k d b))
      ∙ ap (map (λ w. w.op)) (append-nil of)
    where
      only-last : (k : ℕ) (d : Wait) → k < 1 →
          is_wait_of n (get_or (record { op = op; timer = timer } ∷ []) k d) ≡ false
      only-last zero d b = other-test n timer other
      only-last (suc k) d b = absurd (omega arith)

  once-put : (n : ℕ) → length (filter (is_entry_for n) (put e queue.waits)) ≤ 1
  once-put n =
      let count = count-put (is_entry_for n) e queue.waits in
      let most = is.once n in
      elim (cases_eq n op) [
        | inl here ↦
            let fails : All (λ x. is_entry_for n x ≡ false) queue.waits = λ k d b.
            let apart = new k d b in other-test n (get_or queue.waits k d).op (λ f. apart (sym f ∙ here)) in
            let none : filter (is_entry_for n) queue.waits ≡ [] = filter-none (is_entry_for n) queue.waits fails in
            let long : length (filter (is_entry_for n) queue.waits) ≡ 0 = ap length none in
            let yes : filter (is_entry_for n) (e ∷ queue.waits) ≡ e ∷ filter (is_entry_for n) queue.waits =
            filter-yes (is_entry_for n) e queue.waits (own-test n e.op (here ∙ sym same)) in
            let all : length (filter (is_entry_for n) (e ∷ queue.waits))
            ≡ suc (length (filter (is_entry_for n) queue.waits)) =
            ap length yes in
            omega arith
        | inr other ↦ let no : is_entry_for n e ≡ false = other-test n e.op (λ f. other (f ∙ same)) in
            let rest : length (filter (is_entry_for n) (e ∷ queue.waits))
            ≡ length (filter (is_entry_for n) queue.waits) =
            rw no refl in
            omega arith
      ]

  pub accepts : (after : Timers) (left : List (List ℕ)) → after.waits ≡ put e queue.waits →
      after.spare + 1 ≡ queue.spare → left ≡ set queues timer (get_or queues timer [] ++ op ∷ []) →
      IsWaits expiries (set timers op timer) after left (accepted + 1) (pending + 1)
  accepts after left waits spare written =
      let ops : ℕ → List ℕ = λ n. ops_of n (set timers op timer) (put e queue.waits) in
      let listed =
      listed-set queues timer (get_or queues timer [] ++ op ∷ []) ops there
      (ap (λ l. l ++ op ∷ []) (is.listed timer there) ∙ sym ops-own)
      (λ n other b. is.listed n b ∙ sym (ops-others n other)) in
      let long : length left ≡ length queues =
      ap length written ∙ length-set queues timer (get_or queues timer [] ++ op ∷ []) in
      let lengths = is.lengths in
      let within_all : timer < length expiries = omega arith in
      let count = is.count in
      let room = is.room in
      let fewer = is.fewer in
      let small = is.small in
      let one_more : length after.waits ≡ suc (length queue.waits) = ap length waits ∙ length-put e queue.waits in
      let kept : length (set timers op timer) ≡ length timers = length-set timers op timer in
      record {
        in_order =
            ap (λ q. sorted_by expiry_of_entry (sorted_by serial_of q)) waits
            ∙ ap (sorted_by expiry_of_entry) (serial-put e queue.waits older)
            ∙ expiry-put e (sorted_by serial_of queue.waits) (All-sorted_by serial_of (IsOlder e) queue.waits older)
            ∙ ap (put e) is.in_order ∙ sym waits;
        each = let P : List TimerEntry → Type 0 = All (IsAccepted expiries (set timers op timer) (accepted + 1)) in
            subst P (sym waits)
            (All-put (IsAccepted expiries (set timers op timer) (accepted + 1)) e queue.waits
            (each-new expiries timers accepted op timer within within_all e serial same expiry)
            (λ k d b.
            each-same expiries timers accepted op timer within (get_or queue.waits k d) (new k d b)
            (is.each k d b)));
        once = λ n.
            let P : List TimerEntry → Type 0 = λ q. length (filter (is_entry_for n) q) ≤ 1 in
            subst P (sym waits) (once-put n);
        count = omega arith;
        room = omega arith;
        listed = λ n b.
            ap (λ l. get_or l n []) written ∙ listed n (omega arith) ∙ ap (ops_of n (set timers op timer)) (sym waits);
        lengths = omega arith;
        fewer = omega arith;
        few = omega arith;
        small = omega arith;
      }

  -- what is seen once a wait was accepted
  pub view-accepted : (after : List TimerEntry) (acts : ℕ) (rooms left : List ℕ) → after ≡ put e queue.waits → left ≡ rooms →
      acts ≡ length timers →
      ◌≡◌ {A = Waiting}
      (record {
        expiries = expiries;
        waits = waits_of (set timers op timer) after;
        accepted = accepted + 1;
        rooms = left;
        acts = length (set timers op timer);
      }) (record {
        expiries = expiries;
        waits = waits_of timers queue.waits ++ record { op = op; timer = timer } ∷ [];
        accepted = accepted + 1;
        rooms = rooms;
        acts = acts;
      })
  view-accepted after acts rooms left waits kept long =
      let seen : List Wait → List ℕ → ℕ → Waiting = λ ws rs n. record {
        expiries = expiries;
        waits = ws;
        accepted = accepted + 1;
        rooms = rs;
        acts = n;
      } in
      let all : List Wait = waits_of timers queue.waits ++ record { op = op; timer = timer } ∷ [] in
      ap (λ ws. seen ws left (length (set timers op timer))) (ap (waits_of (set timers op timer)) waits
      ∙ waits-put expiries timers accepted op timer within e queue.waits same older new)
      ∙ ap (λ rs. seen all rs (length (set timers op timer))) kept
      ∙ ap (seen all rooms) (length-set timers op timer ∙ sym long)
