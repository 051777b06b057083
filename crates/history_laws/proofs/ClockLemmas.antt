-- Waits, their expiries and the time, while the reactor turns.
use Rattle.std.proofs.Common.{◌≡◌, ◌⊎◌, ℕ, zero, suc, ◌+◌, ◌<◌, ◌≤◌, nat_lt, min, Bool, true, false, not, cond, List, [], ◌∷◌, ◌++◌, Option, Some, None, inl, inr, filter, find, map, get_or, length, refl, sym, ap, subst, ◌∙◌, arith}
use Rattle.std.specs.List.{All, slice_index_or, sum_by}
use Rattle.std.specs.Prelude.{slice_get}
use Rattle.std.proofs.lemmas.Bool.{cases_lt}
use Rattle.std.proofs.lemmas.Bool.Decides.{nat_tests}
use Rattle.std.proofs.lemmas.List.{length-append}
use Rattle.std.proofs.lemmas.List.Elements.{All-head, All-tail}
use Rattle.std.proofs.lemmas.List.Filters.{length-filter_both}
use Rattle.std.proofs.lemmas.List.Sums.{get_or-le-sum_by, length-filter, sum_by-cons}
use Rattle.asio_types.specs.declared.outside.Point.TheVariants as point
use Rattle.asio_types.specs.declared.world.Line.{Line}
use Rattle.session_script.specs.declared.act.Act.{Act}
use Rattle.session_script.specs.declared.act.Act.TheVariants as act
use Rattle.session_script.specs.Script.{ScriptModel, act_of}
use Rattle.stream_rules.specs.declared.queue.Completion.{Completion}
use Rattle.stream_rules.specs.Serving.{Reading, Writing, Some_bytes, All_bytes, Until, Some_of, All_of}
use Rattle.stream_rules.specs.World.{earlier_point, times_after}
use Rattle.stream_rules.proofs.WorldLemmas.{next_point-later, rising_after-later}
use Rattle.history_rules.specs.Bounds.{AllAhead}
use Rattle.history_rules.specs.Performing.{bad, connected, emitted, emitted_to, is_reached, is_wait_for, is_wait_of, new_pending, one_wait_cancelled, operation_cancelled, performed_act, performed_by, queues_at, read_accepted, shut_at, wait_accepted, waits_cancelled, with_due, with_queues, write_accepted}
use Rattle.history_rules.specs.Requests.{disconnected, reactor_after_done, slot_in, told_off}
use Rattle.history_rules.specs.Rounds.{IsDrained, IsEmptied}
use Rattle.history_rules.specs.Settling.{expiry_of, is_due, served_below, settled, with_waits_served}
use Rattle.history_rules.specs.State.{ReactorHalf, StreamQueues}
use Rattle.history_rules.specs.Time.{at_time, least_of, lesser, next_expiry, next_time, pending_count}
use Rattle.history_rules.specs.Untold.{gone}
use Rattle.history_rules.specs.declared.wait.Wait.{Wait}
use Rattle.history_rules.proofs.PerformingLemmas.{All-passing}
use Rattle.history_rules.proofs.TimeLemmas.{next-above}
use Rattle.history_laws.proofs.CountLemmas.{one_if}

-- nothing of its waits changed
pub record KeepsWaits (r t : ReactorHalf) : Type 0 where
  pub waits : t.waits ≡ r.waits
  pub expiries : t.expiries ≡ r.expiries
  pub now : t.now ≡ r.now

served_keeps : (k : ℕ) (r : ReactorHalf) → KeepsWaits r (served_below k r)
served_keeps zero r = record { waits = refl; expiries = refl; now = refl }
served_keeps (suc k) r =
    let rest = served_keeps k r in record { waits = rest.waits; expiries = rest.expiries; now = rest.now }

settled_by : (told : Bool) (r whole : ReactorHalf) → KeepsWaits r whole →
    KeepsWaits r (cond told (served_below (length whole.queues) whole) whole)
settled_by true r whole keeps =
    let rest = served_keeps (length whole.queues) whole in
    record { waits = rest.waits ∙ keeps.waits; expiries = rest.expiries ∙ keeps.expiries; now = rest.now ∙ keeps.now }
settled_by false r whole keeps = keeps

-- settling takes away the waits that are due, and nothing else of them
pub settled_keeps : (told : Bool) (r : ReactorHalf) →
    KeepsWaits (record r { waits = filter (λ wait. not (is_due r wait)) r.waits }) (settled told r)
settled_keeps told r =
    settled_by told (record r { waits = filter (λ wait. not (is_due r wait)) r.waits })
    (record (with_waits_served r) { whole_turn = true; reached = 0 })
    (record { waits = refl; expiries = refl; now = refl })

gone_keeps : (given : Option Act) (r : ReactorHalf) → KeepsWaits r (gone given r)
gone_keeps (Some (act.ReadSome stream size strand slot filter)) r = record { waits = refl; expiries = refl; now = refl }
gone_keeps (Some (act.ReadAll stream size strand slot filter)) r = record { waits = refl; expiries = refl; now = refl }
gone_keeps (Some (act.Until stream delimiter max strand slot filter)) r = record { waits = refl; expiries = refl; now = refl }
gone_keeps (Some (act.WriteSome stream bytes strand slot filter)) r = record { waits = refl; expiries = refl; now = refl }
gone_keeps (Some (act.WriteAll stream bytes strand slot filter)) r = record { waits = refl; expiries = refl; now = refl }
gone_keeps _ r = record { waits = refl; expiries = refl; now = refl }

off_keeps : (script : ScriptModel) (o : ℕ) (r : ReactorHalf) (due : List Completion) →
    KeepsWaits r (told_off script o r due)
off_keeps script o r [] = gone_keeps (act_of script o) r
off_keeps script o r (next ∷ due) = record { waits = refl; expiries = refl; now = refl }

left_keeps : (o : ℕ) (slot : Option ℕ) (r t : ReactorHalf) → KeepsWaits r t → KeepsWaits r (disconnected o slot t)
left_keeps o None r t keeps = keeps
left_keeps o (Some slot) r t keeps = record { waits = keeps.waits; expiries = keeps.expiries; now = keeps.now }

-- a completion changes nothing of the waits
pub told_keeps : (script : ScriptModel) (o : ℕ) (r : ReactorHalf) → KeepsWaits r (reactor_after_done script r o)
told_keeps script o r =
    let off = off_keeps script o r r.due in
    left_keeps o (slot_in (act_of script o)) r (record (told_off script o r r.due) { whole_turn = false })
    (record { waits = off.waits; expiries = off.expiries; now = off.now })

-- waits that are ahead stay so
pub ahead_kept : (r t : ReactorHalf) → KeepsWaits r t → AllAhead r → AllAhead t
ahead_kept r t keeps ahead =
    subst (λ (waits : List Wait). All (λ wait. t.now < expiry_of t wait) waits) (sym keeps.waits)
    (λ k d within.
    let before = ahead k d within in
    let expires : expiry_of t (get_or r.waits k d) ≡ expiry_of r (get_or r.waits k d) =
    ap (λ (expiries : List ℕ). get_or expiries (get_or r.waits k d).timer 0) keeps.expiries in
    let now = keeps.now in
    omega (arith, before, expires, now))

not_due : (r : ReactorHalf) (wait : Wait) → not (is_due r wait) ≡ true → r.now < expiry_of r wait
not_due r wait late = grind (arith, nat_tests, late)

-- a settled turn leaves the waits that are ahead
pub settled_ahead : (told : Bool) (r : ReactorHalf) → AllAhead (settled told r)
settled_ahead told r =
    ahead_kept (record r { waits = filter (λ wait. not (is_due r wait)) r.waits }) (settled told r) (settled_keeps told r)
    (All-passing (λ wait. not (is_due r wait)) (λ wait. Unit {0}) (λ wait. r.now < expiry_of r wait) r.waits
    (λ wait any late. not_due r wait late) (λ k d within. tt))

filter_less : {X : Type 0} (test : X → Bool) (xs : List X) → length (filter test xs) ≤ length xs
filter_less test xs = let both = length-filter_both test (λ x. not (test x)) (λ x. refl) xs in omega (arith, both)

-- one that doesn't pass is left out
left_out : {X : Type 0} (test : X → Bool) (xs : List X) (k : ℕ) (d : X) → k < length xs →
    test (get_or xs k d) ≡ false → length (filter test xs) + 1 ≤ length xs
left_out test xs k d within fails =
    let both = length-filter_both test (λ x. not (test x)) (λ x. refl) xs in
    let counts = length-filter (λ x. not (test x)) xs in
    let some = get_or-le-sum_by (λ x. cond (not (test x)) 1 0) xs k d within in
    let one : one_if (not (test (get_or xs k d))) ≡ 1 = ap (λ b. one_if (not b)) fails in
    omega (arith, both, counts, some, one)

-- an act that is performed adds at most one wait
more_if : (b : Bool) (k : ℕ) (one two : ReactorHalf) → length one.waits ≤ k → length two.waits ≤ k →
    length (cond b one two).waits ≤ k
more_if true k one two first second = first
more_if false k one two first second = second

more_connected : (slot : Option ℕ) (op k : ℕ) (t : ReactorHalf) → length t.waits ≤ k →
    length (connected slot op t).waits ≤ k
more_connected None op k t less = less
more_connected (Some slot) op k t less = less

fewer_waits : (test : Wait → Bool) (r : ReactorHalf) → length (waits_cancelled test r).waits ≤ length r.waits + 1
fewer_waits test r = let less = filter_less (λ wait. not (test wait)) r.waits in omega (arith, less)

more_read : (op stream : ℕ) (reading : Reading) (r : ReactorHalf) →
    length (read_accepted op stream reading r).waits ≤ length r.waits + 1
more_read op stream reading r =
    let old = queues_at r stream in
    more_if old.closed (length r.waits + 1) (with_due (bad op ∷ []) r)
    (with_queues r stream (record old { reads = old.reads ++ new_pending op r.accepted reading ∷ [] })) (omega arith)
    (omega arith)

more_write : (op stream : ℕ) (writing : Writing) (r : ReactorHalf) →
    length (write_accepted op stream writing r).waits ≤ length r.waits + 1
more_write op stream writing r =
    let old = queues_at r stream in
    more_if old.closed (length r.waits + 1) (with_due (bad op ∷ []) r)
    (with_queues r stream (record old { writes = old.writes ++ new_pending op r.accepted writing ∷ [] })) (omega arith)
    (omega arith)

more_cancelled : (given : Act) (op : ℕ) (r : ReactorHalf) →
    length (operation_cancelled given op r).waits ≤ length r.waits + 1
more_cancelled (act.Wait timer strand slot filter) op r = fewer_waits (is_wait_for op) r
more_cancelled (act.ReadSome stream size strand slot filter) op r = omega arith
more_cancelled (act.ReadAll stream size strand slot filter) op r = omega arith
more_cancelled (act.Until stream delimiter max strand slot filter) op r = omega arith
more_cancelled (act.WriteSome stream bytes strand slot filter) op r = omega arith
more_cancelled (act.WriteAll stream bytes strand slot filter) op r = omega arith
more_cancelled _ op r = omega arith

more_emitted : (script : ScriptModel) (op : Option ℕ) (types : ℕ) (r : ReactorHalf) →
    length (emitted script op types r).waits ≤ length r.waits + 1
more_emitted script None types r = omega arith
more_emitted script (Some op) types r = by_act (act_of script op)
  where
    by_act : (given : Option Act) → length (emitted_to given types op r).waits ≤ length r.waits + 1
    by_act None = omega arith
    by_act (Some given) =
        more_if (is_reached given types) (length r.waits + 1) (operation_cancelled given op r) r (more_cancelled given op r)
        (omega arith)

more_one : (wait : Option Wait) (r : ReactorHalf) → length (one_wait_cancelled wait r).waits ≤ length r.waits + 1
more_one None r = omega arith
more_one (Some wait) r = fewer_waits (is_wait_for wait.op) r

more_act : (script : ScriptModel) (a : ℕ) (given : Act) (r : ReactorHalf) →
    length (performed_act script a given r).waits ≤ length r.waits + 1
more_act script a (act.Wait timer strand slot filter) r =
    let pushed = length-append r.waits (record { op = a; timer = timer } ∷ []) in
    more_connected slot a (length r.waits + 1) (wait_accepted a timer r) (omega (arith, pushed))
more_act script a (act.ReadSome stream size strand slot filter) r =
    more_connected slot a (length r.waits + 1) (read_accepted a stream (Some_bytes size) r)
    (more_read a stream (Some_bytes size) r)
more_act script a (act.ReadAll stream size strand slot filter) r =
    more_connected slot a (length r.waits + 1) (read_accepted a stream (All_bytes size) r) (more_read a stream (All_bytes size) r)
more_act script a (act.Until stream delimiter max strand slot filter) r =
    more_connected slot a (length r.waits + 1) (read_accepted a stream (Until delimiter max) r)
    (more_read a stream (Until delimiter max) r)
more_act script a (act.WriteSome stream bytes strand slot filter) r =
    more_connected slot a (length r.waits + 1) (write_accepted a stream (Some_of bytes) r) (more_write a stream (Some_of bytes) r)
more_act script a (act.WriteAll stream bytes strand slot filter) r =
    more_connected slot a (length r.waits + 1) (write_accepted a stream (All_of bytes) r) (more_write a stream (All_of bytes) r)
more_act script a (act.Expires timer after) r =
    let less = filter_less (λ wait. not (is_wait_of timer wait)) r.waits in omega (arith, less)
more_act script a (act.ExpiresAt timer at) r =
    let less = filter_less (λ wait. not (is_wait_of timer wait)) r.waits in omega (arith, less)
more_act script a (act.Cancel timer) r = fewer_waits (is_wait_of timer) r
more_act script a (act.CancelOne timer) r = more_one (find (is_wait_of timer) r.waits) r
more_act script a (act.Emit slot types) r = more_emitted script (slice_index_or r.slots slot None) types r
more_act script a (act.Close stream) r =
    more_if (queues_at r stream).closed (length r.waits + 1) r (shut_at stream r) (omega arith) (omega arith)
more_act script a _ r = omega arith

pub more_waits : (script : ScriptModel) (a : ℕ) (given : Option Act) (r : ReactorHalf) →
    length (performed_by script a given r).waits ≤ length r.waits + 1
more_waits script a None r = omega arith
more_waits script a (Some given) r = more_act script a given r

pub settled_fewer : (told : Bool) (r : ReactorHalf) → length (settled told r).waits ≤ length r.waits
settled_fewer told r =
    let same = ap length (settled_keeps told r).waits in
    let less = filter_less (λ wait. not (is_due r wait)) r.waits in omega (arith, same, less)

-- the least of numbers is one of them
record HasKey {X : Type 0} (key : X → ℕ) (xs : List X) (n : ℕ) : Type 0 where
  index : ℕ
  within : index < length xs
  is : (d : X) → key (get_or xs index d) ≡ n

key_later : {X : Type 0} (key : X → ℕ) (x : X) (xs : List X) (n : ℕ) → HasKey key xs n → HasKey key (x ∷ xs) n
key_later key x xs n has = record { index = suc has.index; within = omega (arith, has.within); is = has.is }

key_here : {X : Type 0} (key : X → ℕ) (x : X) (xs : List X) (n : ℕ) → key x ≡ n → HasKey key (x ∷ xs) n
key_here key x xs n is = record { index = 0; within = omega arith; is = λ d. is }

key_lesser : {X : Type 0} (key : X → ℕ) (x : X) (xs : List X) (n : ℕ) (least : Option ℕ) →
    (least ≡ Some n → HasKey key xs n) → lesser (key x) least ≡ Some n → HasKey key (x ∷ xs) n
key_lesser key x xs n None rest is = let same : key x ≡ n = cc in key_here key x xs n same
key_lesser key x xs n (Some y) rest is =
    let either : min (key x) y ≡ n = cc in
    elim (cases_lt (key x) y) [
      | inl less ↦ key_here key x xs n (omega (arith, either, less))
      | inr more ↦
          let same : y ≡ n = omega (arith, either, more) in
          key_later key x xs n (rest (ap (λ n. Some n) same))
    ]

key_by : {X : Type 0} (key : X → ℕ) (test : ℕ → Bool) (x : X) (xs : List X) (n : ℕ) (b : Bool) →
    (least_of (filter test (map key xs)) ≡ Some n → HasKey key xs n) →
    least_of (cond b (key x ∷ filter test (map key xs)) (filter test (map key xs))) ≡ Some n → HasKey key (x ∷ xs) n
key_by key test x xs n true rest is = key_lesser key x xs n (least_of (filter test (map key xs))) rest is
key_by key test x xs n false rest is = key_later key x xs n (rest is)

least_key : {X : Type 0} (key : X → ℕ) (test : ℕ → Bool) (xs : List X) (n : ℕ) →
    least_of (filter test (map key xs)) ≡ Some n → HasKey key xs n
least_key key test [] n is = absurd (cc)
least_key key test (x ∷ xs) n is = key_by key test x xs n (test (key x)) (least_key key test xs n) is

-- the next time point is an expiry, or a time of the world
point_is : (limit next : Option ℕ) (time : ℕ) → earlier_point limit next ≡ point.Time time →
    (limit ≡ Some time) ⊎ (next ≡ Some time)
point_is None None time is = absurd (cc)
point_is None (Some x) time is = let same : x ≡ time = cc in inr (ap (λ n. Some n) same)
point_is (Some l) None time is = let same : l ≡ time = cc in inl (ap (λ n. Some n) same)
point_is (Some l) (Some x) time is =
    let same : min l x ≡ time = cc in
    elim (cases_lt l x) [
      | inl less ↦ inl (let e : l ≡ time = omega (arith, same, less) in ap (λ n. Some n) e)
      | inr more ↦ inr (let e : x ≡ time = omega (arith, same, more) in ap (λ n. Some n) e)
    ]

module _ (script : ScriptModel) (told : Bool) (r : ReactorHalf) (now : ℕ) (next : next_time script r ≡ point.Time now)
  where
    abbrev times : List ℕ
    times = times_after r.now script.world.lines

    -- time rises
    pub forward : r.now < now
    forward =
        next_point-later (next_expiry r) r.now now (map (λ (line : Line). line.time) script.world.lines)
        (λ x is. next-above r.now (map (expiry_of r) r.waits) x is) next

    expires_now : (d : Wait) (k : ℕ) → expiry_of r (get_or r.waits k d) ≡ now →
        not (is_due (at_time script told now r) (get_or r.waits k d)) ≡ false
    expires_now d k is = grind (arith, nat_tests, is)

    passes_now : (t : ℕ) → t ≡ now → nat_lt now t ≡ false
    passes_now t is = grind (arith, nat_tests, is)

    first_time : (times : List ℕ) → slice_get times 0 ≡ Some now → (0 < length times) × (get_or times 0 0 ≡ now)
    first_time [] is = absurd (cc)
    first_time (first ∷ later) is = let same : first ≡ now = cc in (omega arith, same)

    -- a tick passes a time of the world, or a wait becomes due
    pub tick_falls :
        length (settled told (at_time script told now r)).waits + length (times_after now script.world.lines) + 1
        ≤ length r.waits + length times
    tick_falls =
        let waits = ap length (settled_keeps told (at_time script told now r)).waits in
        let lines = ap length
        (rising_after-later r.now now (map (λ (line : Line). line.time) script.world.lines) (omega (arith, forward))) in
        let fewer_waits = filter_less (λ wait. not (is_due (at_time script told now r) wait)) r.waits in
        let fewer_times = filter_less (λ t. nat_lt now t) times in
        elim (point_is (next_expiry r) (slice_get times 0) now next) [
          | inl expires ↦
              let has = least_key (expiry_of r) (λ t. nat_lt r.now t) r.waits now expires in
              let d : Wait = record { op = 0; timer = 0 } in
              let out = left_out (λ wait. not (is_due (at_time script told now r) wait)) r.waits has.index d has.within
              (expires_now d has.index (has.is d)) in
              omega (arith, waits, lines, fewer_times, out)
          | inr passes ↦
              let has = first_time times passes in
              let out = left_out (λ t. nat_lt now t) times 0 0 has.0 (passes_now (get_or times 0 0) has.1) in
              omega (arith, waits, lines, fewer_waits, out)
        ]

-- no wait is ahead of the last time point
lesser_some : (x : ℕ) (least next : Option ℕ) → earlier_point (lesser x least) next ≡ point.Last → ⊥
lesser_some x None None is = absurd (cc)
lesser_some x None (Some y) is = absurd (cc)
lesser_some x (Some z) None is = absurd (cc)
lesser_some x (Some z) (Some y) is = absurd (cc)

none_ahead : (key : Wait → ℕ) (now : ℕ) (waits : List Wait) (next : Option ℕ) → All (λ wait. now < key wait) waits →
    1 ≤ length waits → earlier_point (least_of (filter (λ e. nat_lt now e) (map key waits))) next ≡ point.Last → ⊥
none_ahead key now [] next ahead some is = absurd (omega (arith, some))
none_ahead key now (wait ∷ waits) next ahead some is =
    let above : now < key wait = All-head (λ wait. now < key wait) wait waits ahead in
    let test : nat_lt now (key wait) ≡ true = grind (arith, nat_tests, above) in
    let rest : List ℕ = filter (λ e. nat_lt now e) (map key waits) in
    let there = ap (λ b. earlier_point (least_of (cond b (key wait ∷ rest) rest)) next) (sym test) ∙ is in
    lesser_some (key wait) (least_of rest) next there

emptied : (queues : List StreamQueues) → All IsEmptied queues →
    sum_by (λ (queues : StreamQueues). length queues.reads + length queues.writes) queues ≡ 0
emptied [] all = refl
emptied (first ∷ queues) all =
    let here = All-head IsEmptied first queues all in
    let rest = emptied queues (All-tail IsEmptied first queues all) in
    let one = sum_by-cons (λ (queues : StreamQueues). length queues.reads + length queues.writes) first queues in
    let reads = ap length here.0 in
    let writes = ap length here.1 in
    omega (arith, rest, one, reads, writes)

-- the last time point passes once
pub last_once : (script : ScriptModel) (r : ReactorHalf) → AllAhead r → r.due ≡ [] → IsDrained r → 1 ≤ pending_count r →
    next_time script r ≡ point.Last → r.last ≡ true → ⊥
last_once script r ahead none drained pending next was =
    let empty = emptied r.queues (drained was) in
    let due = ap length none in
    none_ahead (expiry_of r) r.now r.waits (slice_get (times_after r.now script.world.lines) 0) ahead
    (omega (arith, empty, due, pending)) next
