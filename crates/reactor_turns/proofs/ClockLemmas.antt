-- What the steps of a reactor leave of its waits, its time, and whether it works.
use Rattle.std.proofs.Common.{◌≡◌, ◌⊎◌, ℕ, zero, suc, ◌+◌, ◌<◌, ◌≤◌, nat_lt, min, Bool, true, false, not, cond, List, ◌∷◌, Option, Some, None, inl, inr, filter, get_or, length, map, refl, sym, ap, subst, ◌∙◌, arith, []}
use Rattle.std.specs.Prelude.{find, nat_le, slice_get, sum_by}
use Rattle.std.specs.List.{All}
use Rattle.std.proofs.lemmas.Bool.{cases_lt}
use Rattle.std.proofs.lemmas.Bool.Decides.{nat_tests}
use Rattle.std.proofs.lemmas.List.{length-append}
use Rattle.std.proofs.lemmas.List.Elements.{All-head, All-tail}
use Rattle.std.proofs.lemmas.List.Filters.{length-filter_both}
use Rattle.std.proofs.lemmas.List.Sums.{sum_by-cons}
use Rattle.asio_types.specs.declared.outside.Point.TheVariants as point
use Rattle.session_script.specs.declared.act.Act.{Act}
use Rattle.session_script.specs.declared.act.Act.TheVariants as act
use Rattle.session_script.specs.Script.{ScriptModel, act_of}
use Rattle.stream_rules.specs.declared.queue.Completion.{Completion}
use Rattle.stream_rules.specs.World.{earlier_point, times_after}
use Rattle.stream_rules.specs.Serving.{All_bytes, All_of, Reading, Some_bytes, Some_of, Until, Writing}
use Rattle.stream_rules.proofs.WorldLemmas.{next_point-later, rising_after-later}
use Rattle.asio_types.specs.declared.world.Line.{Line}
use Rattle.history_rules.specs.Performing.{closed_at, connected, emitted, emitted_to, is_reached, is_wait_for, is_wait_of, one_wait_cancelled, operation_cancelled, performed, performed_act, performed_by, queues_at, read_accepted, shut_at, wait_accepted, waits_cancelled, write_accepted}
use Rattle.history_rules.specs.Requests.{disconnected, reactor_after_done, reactor_after_take, slot_in, told_off}
use Rattle.history_rules.specs.Rounds.{IsDrained, IsEmptied}
use Rattle.history_rules.specs.Settling.{expiry_of, is_due, served_below, settled, with_streams_served, with_waits_served}
use Rattle.history_rules.specs.State.{ReactorHalf, StreamQueues}
use Rattle.history_rules.specs.declared.wait.Wait.{Wait}
use Rattle.history_rules.specs.Time.{at_last, at_time, least_of, lesser, next_expiry, next_time, pending_count, reactor_after_last, reactor_after_tick}
use Rattle.history_rules.specs.Bounds.{AllAhead}
use Rattle.history_rules.specs.Untold.{gone}
use Rattle.history_rules.proofs.PerformingLemmas.{All-passing}
use Rattle.history_rules.proofs.TimeLemmas.{next-above}
use Rattle.reactor_turns.specs.Standing.{is_awaited}

-- nothing of its clock changed
pub record KeepsClock (r t : ReactorHalf) : Type 0 where
  pub waits : t.waits ≡ r.waits
  pub expiries : t.expiries ≡ r.expiries
  pub now : t.now ≡ r.now
  pub last : t.last ≡ r.last
  pub failed : t.failed ≡ r.failed
  pub whole : t.whole_turn ≡ r.whole_turn

below-clock : (n : ℕ) (r : ReactorHalf) → KeepsClock r (served_below n r)
below-clock zero r = record { waits = refl; expiries = refl; now = refl; last = refl; failed = refl; whole = refl }
below-clock (suc n) r =
    let rest = below-clock n r in
    record {
      waits = rest.waits;
      expiries = rest.expiries;
      now = rest.now;
      last = rest.last;
      failed = rest.failed;
      whole = rest.whole;
    }

streams-clock : (told : Bool) (r : ReactorHalf) → KeepsClock r (with_streams_served told r)
streams-clock true r = below-clock (length r.queues) r
streams-clock false r = record { waits = refl; expiries = refl; now = refl; last = refl; failed = refl; whole = refl }

abbrev late_gone : ReactorHalf → ReactorHalf
late_gone r = record (with_waits_served r) { whole_turn = true; reached = 0 }

-- settling takes away the waits that are due
pub settled-clock : (told : Bool) (r : ReactorHalf) → KeepsClock (late_gone r) (settled told r)
settled-clock told r = streams-clock told (late_gone r)

pub settled-waits : (told : Bool) (r : ReactorHalf) →
    (settled told r).waits ≡ filter (λ wait. not (is_due r wait)) r.waits
settled-waits told r = (settled-clock told r).waits

not_due : (r : ReactorHalf) (wait : Wait) → not (is_due r wait) ≡ true → r.now < expiry_of r wait
not_due r wait late = grind (arith, nat_tests, late)

ahead-by : (r t : ReactorHalf) → KeepsClock r t → AllAhead r → AllAhead t
ahead-by r t keeps ahead =
    subst (λ waits. All (λ wait. t.now < expiry_of t wait) waits) (sym keeps.waits)
    (λ k d below.
    let before = ahead k d below in
    let expires : expiry_of t (get_or r.waits k d) ≡ expiry_of r (get_or r.waits k d) =
    ap (λ (expiries : List ℕ). get_or expiries (get_or r.waits k d).timer 0) keeps.expiries in
    let now = keeps.now in
    omega (arith, before, expires, now))

-- and each that stays is ahead
pub settled-ahead : (told : Bool) (r : ReactorHalf) → AllAhead (settled told r)
settled-ahead told r =
    ahead-by (late_gone r) (settled told r) (settled-clock told r)
    (All-passing (λ wait. not (is_due r wait)) (λ wait. Unit {0}) (λ wait. r.now < expiry_of r wait) r.waits
    (λ wait any late. not_due r wait late) (λ k d below. tt))

filter-less : {X : Type 0} (test : X → Bool) (xs : List X) → length (filter test xs) ≤ length xs
filter-less test xs = let both = length-filter_both test (λ x. not (test x)) (λ x. refl) xs in omega (arith, both)

not-less : {X : Type 0} (test : X → Bool) (xs : List X) → length (filter (λ x. not (test x)) xs) ≤ length xs
not-less test xs = filter-less (λ x. not (test x)) xs

-- what performing an act leaves: at most so many waits more
pub record Runs (more : ℕ) (r t : ReactorHalf) : Type 0 where
  pub waits : length t.waits ≤ length r.waits + more
  pub now : t.now ≡ r.now
  pub last : t.last ≡ r.last
  pub failed : t.failed ≡ r.failed

runs-if : (b : Bool) (more : ℕ) (r one two : ReactorHalf) → Runs more r one → Runs more r two →
    Runs more r (cond b one two)
runs-if true more r one two first second = first
runs-if false more r one two first second = second

runs-same : (more : ℕ) (r : ReactorHalf) → Runs more r r
runs-same more r = record { waits = omega arith; now = refl; last = refl; failed = refl }

runs-connected : (slot : Option ℕ) (op more : ℕ) (r t : ReactorHalf) → Runs more r t → Runs more r (connected slot op t)
runs-connected None op more r t runs = runs
runs-connected (Some slot) op more r t runs = record {
  waits = runs.waits;
  now = runs.now;
  last = runs.last;
  failed = runs.failed;
}

runs-cancelled : (test : Wait → Bool) (more : ℕ) (r : ReactorHalf) → Runs more r (waits_cancelled test r)
runs-cancelled test more r =
    record { waits = let less = not-less test r.waits in omega (arith, less); now = refl; last = refl; failed = refl }

runs-read : (op stream more : ℕ) (reading : Reading) (r : ReactorHalf) → Runs more r (read_accepted op stream reading r)
runs-read op stream more reading r =
    runs-if (queues_at r stream).closed more r _ _
    (record { waits = omega arith; now = refl; last = refl; failed = refl })
    (record { waits = omega arith; now = refl; last = refl; failed = refl })

runs-write : (op stream more : ℕ) (writing : Writing) (r : ReactorHalf) →
    Runs more r (write_accepted op stream writing r)
runs-write op stream more writing r =
    runs-if (queues_at r stream).closed more r _ _
    (record { waits = omega arith; now = refl; last = refl; failed = refl })
    (record { waits = omega arith; now = refl; last = refl; failed = refl })

runs-operation : (given : Act) (op more : ℕ) (r : ReactorHalf) → Runs more r (operation_cancelled given op r)
runs-operation (act.Wait timer strand slot filter) op more r = runs-cancelled (is_wait_for op) more r
runs-operation (act.ReadSome stream size strand slot filter) op more r =
    record { waits = omega arith; now = refl; last = refl; failed = refl }
runs-operation (act.ReadAll stream size strand slot filter) op more r =
    record { waits = omega arith; now = refl; last = refl; failed = refl }
runs-operation (act.Until stream delimiter max strand slot filter) op more r =
    record { waits = omega arith; now = refl; last = refl; failed = refl }
runs-operation (act.WriteSome stream bytes strand slot filter) op more r =
    record { waits = omega arith; now = refl; last = refl; failed = refl }
runs-operation (act.WriteAll stream bytes strand slot filter) op more r =
    record { waits = omega arith; now = refl; last = refl; failed = refl }
runs-operation given op more r = runs-same more r

runs-emitted_to : (given : Option Act) (types op more : ℕ) (r : ReactorHalf) → Runs more r (emitted_to given types op r)
runs-emitted_to None types op more r = runs-same more r
runs-emitted_to (Some given) types op more r =
    runs-if (is_reached given types) more r (operation_cancelled given op r) r (runs-operation given op more r) (runs-same more r)

runs-emitted : (script : ScriptModel) (op : Option ℕ) (types more : ℕ) (r : ReactorHalf) →
    Runs more r (emitted script op types r)
runs-emitted script None types more r = runs-same more r
runs-emitted script (Some op) types more r = runs-emitted_to (act_of script op) types op more r

runs-first : (wait : Option Wait) (more : ℕ) (r : ReactorHalf) → Runs more r (one_wait_cancelled wait r)
runs-first None more r = runs-same more r
runs-first (Some wait) more r = runs-cancelled (is_wait_for wait.op) more r

runs-closed : (stream more : ℕ) (r : ReactorHalf) → Runs more r (closed_at stream r)
runs-closed stream more r =
    runs-if (queues_at r stream).closed more r r (shut_at stream r) (runs-same more r)
    (record { waits = omega arith; now = refl; last = refl; failed = refl })

-- performing an asynchronous operation adds at most one wait
runs-act : (script : ScriptModel) (a : ℕ) (given : Act) (r : ReactorHalf) →
    Runs (cond (is_awaited given) 1 0) r (performed_act script a given r)
runs-act script a (act.Wait timer strand slot filter) r =
    let more = length-append r.waits (record { op = a; timer = timer } ∷ []) in
    runs-connected slot a 1 r (wait_accepted a timer r)
    (record { waits = omega (arith, more); now = refl; last = refl; failed = refl })
runs-act script a (act.ReadSome stream bytes strand slot filter) r =
    runs-connected slot a 1 r (read_accepted a stream (Some_bytes bytes) r) (runs-read a stream 1 (Some_bytes bytes) r)
runs-act script a (act.ReadAll stream bytes strand slot filter) r =
    runs-connected slot a 1 r (read_accepted a stream (All_bytes bytes) r) (runs-read a stream 1 (All_bytes bytes) r)
runs-act script a (act.Until stream delimiter max strand slot filter) r =
    runs-connected slot a 1 r (read_accepted a stream (Until delimiter max) r) (runs-read a stream 1 (Until delimiter max) r)
runs-act script a (act.WriteSome stream bytes strand slot filter) r =
    runs-connected slot a 1 r (write_accepted a stream (Some_of bytes) r) (runs-write a stream 1 (Some_of bytes) r)
runs-act script a (act.WriteAll stream bytes strand slot filter) r =
    runs-connected slot a 1 r (write_accepted a stream (All_of bytes) r) (runs-write a stream 1 (All_of bytes) r)
runs-act script a (act.Expires timer after) r =
    record {
      waits = let less = not-less (is_wait_of timer) r.waits in omega (arith, less);
      now = refl;
      last = refl;
      failed = refl;
    }
runs-act script a (act.ExpiresAt timer at) r =
    record {
      waits = let less = not-less (is_wait_of timer) r.waits in omega (arith, less);
      now = refl;
      last = refl;
      failed = refl;
    }
runs-act script a (act.Cancel timer) r = runs-cancelled (is_wait_of timer) 0 r
runs-act script a (act.CancelOne timer) r = runs-first (find (is_wait_of timer) r.waits) 0 r
runs-act script a (act.Emit slot types) r = runs-emitted script (get_or r.slots slot None) types 0 r
runs-act script a (act.Close stream) r = runs-closed stream 0 r
runs-act script a (act.Release guard) r = record { waits = omega arith; now = refl; last = refl; failed = refl }
runs-act script a (act.Post strand) r = runs-same 0 r
runs-act script a (act.Defer strand) r = runs-same 0 r
runs-act script a (act.Dispatch strand) r = runs-same 0 r
runs-act script a act.Stop r = runs-same 0 r

-- a settled turn has no more waits
runs-settled : (told : Bool) (more : ℕ) (r t : ReactorHalf) → Runs more r t → Runs more r (settled told t)
runs-settled told more r t runs =
    let clock = settled-clock told t in
    record {
      waits =
          let less = not-less (is_due t) t.waits in
          let same = ap length clock.waits in let before = runs.waits in omega (arith, less, same, before);
      now = clock.now ∙ runs.now;
      last = clock.last ∙ runs.last;
      failed = clock.failed ∙ runs.failed;
    }

pub runs-take : (script : ScriptModel) (told : Bool) (r : ReactorHalf) (a : ℕ) (given : Act) →
    act_of script a ≡ Some given → Runs (cond (is_awaited given) 1 0) r (reactor_after_take script told r a)
runs-take script told r a given is =
    let acted : Runs (cond (is_awaited given) 1 0) r (performed_by script a (act_of script a) r) =
    subst (λ (found : Option Act). Runs (cond (is_awaited given) 1 0) r (performed_by script a found r)) (sym is)
    (runs-act script a given r) in
    runs-settled told (cond (is_awaited given) 1 0) r (performed script a r)
    (record { waits = acted.waits; now = acted.now; last = acted.last; failed = acted.failed })

-- a completion changes nothing of its clock but that the turn isn't whole
pub record KeepsTime (r t : ReactorHalf) : Type 0 where
  pub waits : t.waits ≡ r.waits
  pub expiries : t.expiries ≡ r.expiries
  pub now : t.now ≡ r.now
  pub last : t.last ≡ r.last
  pub failed : t.failed ≡ r.failed

time-gone : (given : Option Act) (r : ReactorHalf) → KeepsTime r (gone given r)
time-gone (Some (act.ReadSome a b c d e)) r = record {
  waits = refl;
  expiries = refl;
  now = refl;
  last = refl;
  failed = refl;
}
time-gone (Some (act.ReadAll a b c d e)) r = record {
  waits = refl;
  expiries = refl;
  now = refl;
  last = refl;
  failed = refl;
}
time-gone (Some (act.Until a b c d e f)) r = record {
  waits = refl;
  expiries = refl;
  now = refl;
  last = refl;
  failed = refl;
}
time-gone (Some (act.WriteSome a b c d e)) r = record {
  waits = refl;
  expiries = refl;
  now = refl;
  last = refl;
  failed = refl;
}
time-gone (Some (act.WriteAll a b c d e)) r = record {
  waits = refl;
  expiries = refl;
  now = refl;
  last = refl;
  failed = refl;
}
time-gone given r = record { waits = refl; expiries = refl; now = refl; last = refl; failed = refl }

time-told_off : (script : ScriptModel) (o : ℕ) (r : ReactorHalf) (due : List Completion) →
    KeepsTime r (told_off script o r due)
time-told_off script o r [] = time-gone (act_of script o) r
time-told_off script o r (head ∷ due) = record { waits = refl; expiries = refl; now = refl; last = refl; failed = refl }

time-disconnected : (o : ℕ) (slot : Option ℕ) (r t : ReactorHalf) → KeepsTime r t → KeepsTime r (disconnected o slot t)
time-disconnected o None r t keeps = keeps
time-disconnected o (Some slot) r t keeps =
    record { waits = keeps.waits; expiries = keeps.expiries; now = keeps.now; last = keeps.last; failed = keeps.failed }

pub time-done : (script : ScriptModel) (r : ReactorHalf) (o : ℕ) → KeepsTime r (reactor_after_done script r o)
time-done script r o =
    let off = time-told_off script o r r.due in
    time-disconnected o (slot_in (act_of script o)) r (record (told_off script o r r.due) { whole_turn = false })
    (record { waits = off.waits; expiries = off.expiries; now = off.now; last = off.last; failed = off.failed })

pub ahead-time : (r t : ReactorHalf) → KeepsTime r t → AllAhead r → AllAhead t
ahead-time r t keeps ahead =
    subst (λ waits. All (λ wait. t.now < expiry_of t wait) waits) (sym keeps.waits)
    (λ k d below.
    let before = ahead k d below in
    let expires : expiry_of t (get_or r.waits k d) ≡ expiry_of r (get_or r.waits k d) =
    ap (λ (expiries : List ℕ). get_or expiries (get_or r.waits k d).timer 0) keeps.expiries in
    let now = keeps.now in
    omega (arith, before, expires, now))

-- the next time point is an expiry, or a time of the world
point_is : (limit next : Option ℕ) (time : ℕ) → earlier_point limit next ≡ point.Time time →
    (limit ≡ Some time) ⊎ (next ≡ Some time)
point_is None None time is = absurd (cc)
point_is None (Some x) time is = let same : x ≡ time = cc in inr (ap (λ n. Some n) same)
point_is (Some l) None time is = let same : l ≡ time = cc in inl (ap (λ n. Some n) same)
point_is (Some l) (Some x) time is =
    let same : min l x ≡ time = cc in
    elim (cases_lt l x) [
      | inl less ↦ inl (let e : l ≡ time = omega (arith, same, less) in ap (λ n. Some n) e)
      | inr more ↦ inr (let e : x ≡ time = omega (arith, same, more) in ap (λ n. Some n) e)
    ]

-- where an expiry is the least, its wait is due then
module _ {X : Type 0} (f : X → ℕ) (now time : ℕ) where
  staying : (x : X) (xs : List X) (b : Bool) →
      length (cond b (x ∷ filter (λ y. not (nat_le (f y) time)) xs) (filter (λ y. not (nat_le (f y) time)) xs))
      ≤ 1 + length (filter (λ y. not (nat_le (f y) time)) xs)
  staying x xs true = omega arith
  staying x xs false = omega arith

  least_due : (xs : List X) → least_of (filter (λ e. nat_lt now e) (map f xs)) ≡ Some time →
      length (filter (λ y. not (nat_le (f y) time)) xs) + 1 ≤ length xs
  least_due [] is = absurd (cc)
  least_due (x ∷ xs) is = by_test (least_due xs) (nat_lt now (f x)) is
    where
      one_more : length (filter (λ y. not (nat_le (f y) time)) xs) + 1 ≤ length xs →
          length (filter (λ y. not (nat_le (f y) time)) (x ∷ xs)) + 1 ≤ length (x ∷ xs)
      one_more rest = let most = staying x xs (not (nat_le (f x) time)) in omega (arith, rest, most)

      itself : f x ≡ time → length (filter (λ y. not (nat_le (f y) time)) (x ∷ xs)) + 1 ≤ length (x ∷ xs)
      itself same =
          let due : not (nat_le (f x) time) ≡ false = grind (arith, nat_tests, same) in
          let drops : length (filter (λ y. not (nat_le (f y) time)) (x ∷ xs))
          ≡ length (filter (λ y. not (nat_le (f y) time)) xs) =
          ap (λ b.
          length (cond b (x ∷ filter (λ y. not (nat_le (f y) time)) xs) (filter (λ y. not (nat_le (f y) time)) xs)))
          due in
          let less = filter-less (λ y. not (nat_le (f y) time)) xs in
          omega (arith, drops, less)

      lesser_of : (rest : least_of (filter (λ e. nat_lt now e) (map f xs)) ≡ Some time →
          length (filter (λ y. not (nat_le (f y) time)) xs) + 1 ≤ length xs) (o : Option ℕ) →
          least_of (filter (λ e. nat_lt now e) (map f xs)) ≡ o → lesser (f x) o ≡ Some time →
          length (filter (λ y. not (nat_le (f y) time)) (x ∷ xs)) + 1 ≤ length (x ∷ xs)
      lesser_of rest None same is = let here : f x ≡ time = cc in itself here
      lesser_of rest (Some y) same is =
          let either : min (f x) y ≡ time = cc in
          elim (cases_lt (f x) y) [
            | inl less ↦ itself (omega (arith, either, less))
            | inr more ↦ one_more (rest (same ∙ (let e : y ≡ time = omega (arith, either, more) in ap (λ n. Some n) e)))
          ]

      by_test : (rest : least_of (filter (λ e. nat_lt now e) (map f xs)) ≡ Some time →
          length (filter (λ y. not (nat_le (f y) time)) xs) + 1 ≤ length xs) (b : Bool) →
          least_of (cond b (f x ∷ filter (λ e. nat_lt now e) (map f xs)) (filter (λ e. nat_lt now e) (map f xs)))
          ≡ Some time → length (filter (λ y. not (nat_le (f y) time)) (x ∷ xs)) + 1 ≤ length (x ∷ xs)
      by_test rest true is = lesser_of rest (least_of (filter (λ e. nat_lt now e) (map f xs))) refl is
      by_test rest false is = one_more (rest is)

-- where a time is the first, it is past then
first_past : (time : ℕ) (times : List ℕ) → slice_get times 0 ≡ Some time →
    length (filter (λ t. nat_lt time t) times) + 1 ≤ length times
first_past time [] is = absurd (cc)
first_past time (first ∷ times) is =
    let same : first ≡ time = cc in
    let past : nat_lt time first ≡ false = grind (arith, nat_tests, same) in
    let drops : length (filter (λ t. nat_lt time t) (first ∷ times)) ≡ length (filter (λ t. nat_lt time t) times) =
    ap (λ b. length (cond b (first ∷ filter (λ t. nat_lt time t) times) (filter (λ t. nat_lt time t) times))) past in
    let less = filter-less (λ t. nat_lt time t) times in
    omega (arith, drops, less)

module _ (script : ScriptModel) (told : Bool) (r : ReactorHalf) (now : ℕ) (next : next_time script r ≡ point.Time now)
  where
    abbrev times : List ℕ
    times = times_after r.now script.world.lines

    abbrev after : ReactorHalf
    after = reactor_after_tick script told r now

    forward : r.now < now
    forward =
        next_point-later (next_expiry r) r.now now (map (λ (line : Line). line.time) script.world.lines)
        (λ x is. next-above r.now (map (expiry_of r) r.waits) x is) next

    times_now : times_after now script.world.lines ≡ filter (λ t. nat_lt now t) times
    times_now =
        sym (rising_after-later r.now now (map (λ (line : Line). line.time) script.world.lines) (omega (arith, forward)))

    waits_now : after.waits ≡ filter (λ wait. not (nat_le (expiry_of r wait) now)) r.waits
    waits_now = settled-waits told (at_time script told now r)

    -- a tick passes a time of the world, or a wait becomes due
    pub falls-tick : length after.waits + length (times_after now script.world.lines) + 1
        ≤ length r.waits + length times
    falls-tick =
        let waits = ap length waits_now in
        let lines = ap length times_now in
        let fewer_waits = not-less (λ wait. nat_le (expiry_of r wait) now) r.waits in
        let fewer_times = filter-less (λ t. nat_lt now t) times in
        elim (point_is (next_expiry r) (slice_get times 0) now next) [
          | inl expires ↦
              let less = least_due (expiry_of r) r.now now r.waits expires in
              omega (arith, waits, lines, fewer_times, less)
          | inr passes ↦ let less = first_past now times passes in omega (arith, waits, lines, fewer_waits, less)
        ]

pub runs-tick : (script : ScriptModel) (told : Bool) (r : ReactorHalf) (now : ℕ) →
    KeepsClock (late_gone (at_time script told now r)) (reactor_after_tick script told r now)
runs-tick script told r now = settled-clock told (at_time script told now r)

pub runs-last : (told : Bool) (r : ReactorHalf) → Runs 0 r (record (reactor_after_last told r) { last = r.last })
runs-last told r =
    let runs = runs-settled told 0 (at_last told r) (at_last told r) (runs-same 0 (at_last told r)) in
    record { waits = runs.waits; now = runs.now; last = refl; failed = runs.failed }

pub last-set : (told : Bool) (r : ReactorHalf) → (reactor_after_last told r).last ≡ true
last-set told r = (settled-clock told (at_last told r)).last

-- no wait is ahead of the last time point
none_ahead : (f : Wait → ℕ) (now : ℕ) (waits : List Wait) (next : Option ℕ) → All (λ wait. now < f wait) waits →
    1 ≤ length waits → earlier_point (least_of (filter (λ e. nat_lt now e) (map f waits))) next ≡ point.Last → ⊥
none_ahead f now [] next ahead some is = absurd (omega (arith, some))
none_ahead f now (wait ∷ waits) next ahead some is =
    let above : now < f wait = All-head (λ wait. now < f wait) wait waits ahead in
    let test : nat_lt now (f wait) ≡ true = grind (arith, nat_tests, above) in
    let there =
    ap (λ b.
    earlier_point
    (least_of
    (cond b (f wait ∷ filter (λ e. nat_lt now e) (map f waits)) (filter (λ e. nat_lt now e) (map f waits))))
    next) (sym test)
    ∙ is in
    never (f wait) (least_of (filter (λ e. nat_lt now e) (map f waits))) next there
  where
    never : (x : ℕ) (least next : Option ℕ) → earlier_point (lesser x least) next ≡ point.Last → ⊥
    never x None None is = absurd (cc)
    never x None (Some y) is = absurd (cc)
    never x (Some z) None is = absurd (cc)
    never x (Some z) (Some y) is = absurd (cc)

empty_sum : (queues : List StreamQueues) → All IsEmptied queues →
    sum_by (λ (queues : StreamQueues). length queues.reads + length queues.writes) queues ≡ 0
empty_sum [] all = refl
empty_sum (first ∷ queues) all =
    let here = All-head IsEmptied first queues all in
    let rest = empty_sum queues (All-tail IsEmptied first queues all) in
    let one = sum_by-cons (λ (queues : StreamQueues). length queues.reads + length queues.writes) first queues in
    let reads = ap length here.0 in
    let writes = ap length here.1 in
    omega (arith, rest, one, reads, writes)

-- the last time point passes once
pub last-once : (script : ScriptModel) (r : ReactorHalf) → AllAhead r → r.due ≡ [] → IsDrained r → 1 ≤ pending_count r →
    next_time script r ≡ point.Last → r.last ≡ true → ⊥
last-once script r ahead none drained pending next was =
    let empty = empty_sum r.queues (drained was) in
    let due = ap length none in
    none_ahead (expiry_of r) r.now r.waits (slice_get (times_after r.now script.world.lines) 0) ahead
    (omega (arith, empty, due, pending)) next
