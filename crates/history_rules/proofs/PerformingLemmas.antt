-- What performing an act keeps.
use Rattle.std.proofs.Common.{◌≡◌, ◌≢◌, ◌⊎◌, ℕ, ◌+◌, ◌<◌, ◌≤◌, ◌==◌, nat_le, Bool, true, false, not, cond, List, [], ◌∷◌, ◌++◌, Option, Some, None, length, filter, find, get_or, set, zero, suc, inl, inr, refl, arith}
use Rattle.std.specs.List.{All}
use Rattle.std.proofs.lemmas.List.{length-append, length-map, get_or-set_other, get_or_past, set_past}
use Rattle.std.proofs.lemmas.List.Elements.{All-append, All-filter, All-set}
use Rattle.std.proofs.lemmas.List.Sums.{sum_by-set}
use Rattle.std.proofs.lemmas.Bool.{cases_lt}
use Rattle.std.proofs.lemmas.Bool.Decides.{nat_tests}
use Rattle.asio_types.specs.declared.code.Code.{Code}
use Rattle.asio_types.specs.declared.code.Code.TheVariants as code
use Rattle.session_script.specs.declared.act.Act.{Act}
use Rattle.session_script.specs.declared.act.Act.TheVariants as act
use Rattle.session_script.specs.Limits.{limits_of}
use Rattle.session_script.specs.Script.{ScriptModel, act_of}
use Rattle.session_script.specs.WellFormed.{FitsAct, header_of}
use Rattle.stream_rules.specs.declared.queue.Completion.{Completion}
use Rattle.stream_rules.specs.Stream.{Stream, closed_stream}
use Rattle.stream_rules.specs.World.{changed_at}
use Rattle.stream_rules.specs.Serving.{Reading, Writing, Some_bytes, All_bytes, Until, Some_of, All_of}
use Rattle.history_rules.specs.Performing.{all_aborted, all_of_stream, bad, closed_at, shut_at, connected, emitted, emitted_to, expiry_set, guard_released, is_of, is_reached, is_wait_for, is_wait_of, new_pending, one_of_stream_cancelled, one_wait_cancelled, operation_cancelled, performed_act, performed_by, queues_at, read_accepted, wait_accepted, waits_cancelled, with_due, with_queues, write_accepted}
use Rattle.history_rules.specs.Bounds.{pending_in}
use Rattle.history_rules.specs.Settling.{expiry_of, is_due, AreDueTogether}
use Rattle.history_rules.specs.State.{ReactorHalf, StreamQueues, Wait, no_queues}
use Rattle.history_rules.specs.Time.{pending_count}
use Rattle.history_rules.specs.Bounds.{AllAhead}
use Rattle.history_rules.specs.Kinds.{stream_of}
use Rattle.history_rules.specs.Bounds.{size_at, stream_asked}
use Rattle.history_rules.proofs.SizesLemmas.{each_size, one-here, one_at, sizes-set}
use Rattle.history_rules.proofs.CancelledLemmas.{length-all_of_stream, left-aborted}
use Rattle.history_rules.specs.Waits.{all_completed_with, completed_with}
use Rattle.std.proofs.lemmas.List.Filters.{length-filter_both}

-- waits that complete are due
pub pending-completed : (code : Code) (test : Wait → Bool) (waits : List Wait) (queues : List StreamQueues)
    (due : List Completion) →
    pending_in (filter (λ wait. not (test wait)) waits) queues (due ++ all_completed_with code test waits)
    ≡ pending_in waits queues due
pending-completed code test waits queues due =
    let both = length-filter_both test (λ wait. not (test wait)) (λ x. refl) waits in
    let more = length-append due (all_completed_with code test waits) in
    let each = length-map (filter test waits) (completed_with code) in
    omega arith

All-front : {X : Type 0} (Q : X → Type 0) (x : X) (xs : List X) → Q x → All Q xs → All Q (x ∷ xs)
All-front Q x xs here rest zero d b = here
All-front Q x xs here rest (suc k) d b = rest k d (omega arith)

passing-step : {X : Type 0} (p : X → Bool) (Q : X → Type 0) (x : X) (xs : List X) (b : Bool) → p x ≡ b →
    (p x ≡ true → Q x) → All Q xs → All Q (cond b (x ∷ xs) xs)
passing-step p Q x xs true is here rest = All-front Q x xs (here is) rest
passing-step p Q x xs false is here rest = rest

-- what holds for those that pass a test
pub All-passing : {X : Type 0} (p : X → Bool) (P Q : X → Type 0) (xs : List X) → ((x : X) → P x → p x ≡ true → Q x) →
    All P xs → All Q (filter p xs)
All-passing p P Q [] step all = λ k d b. absurd (omega arith)
All-passing p P Q (x ∷ xs) step all =
    let rest : All P xs = λ k d b. all (suc k) d (omega arith) in
    passing-step p Q x (filter p xs) (p x) refl (step x (all 0 x (omega arith))) (All-passing p P Q xs step rest)

-- waits that expire after now, or all at one time, are due together
pub together-from : (r : ReactorHalf) (e : ℕ) →
    All (λ wait. (r.now < expiry_of r wait) ⊎ (expiry_of r wait ≡ e)) r.waits → AreDueTogether r
together-from r e all = (
  e,
  All-passing (is_due r) (λ wait. (r.now < expiry_of r wait) ⊎ (expiry_of r wait ≡ e))
      (λ wait. expiry_of r wait ≡ e) r.waits one all,
)
  where
    one : (wait : Wait) → (r.now < expiry_of r wait) ⊎ (expiry_of r wait ≡ e) → nat_le (expiry_of r wait) r.now ≡ true →
        expiry_of r wait ≡ e
    one wait (inl ahead) due = absurd (grind (arith, nat_tests, due, ahead))
    one wait (inr is) due = is

pub together-ahead : (r : ReactorHalf) → AllAhead r → AreDueTogether r
together-ahead r ahead = together-from r 0 (λ k d b. inl (ahead k d b))

-- what performing leaves as it was, and what it bounds
pub record Performs (most : ℕ) (on : Option ℕ) (r after : ReactorHalf) : Type 0 where
  pub taken : after.taken ≡ r.taken
  pub accepted : after.accepted ≡ r.accepted
  pub now : after.now ≡ r.now
  pub pending : pending_count after ≤ pending_count r + 1
  pub sizes : (stream : ℕ) → size_at after stream ≤ size_at r stream + one_at stream on
  pub together : AllAhead r → AreDueTogether after
  pub expiries : (top : ℕ) → r.now ≤ top → All (λ expiry. expiry ≤ top) r.expiries →
      All (λ expiry. expiry ≤ top + most) after.expiries

All-more : (top most : ℕ) (xs : List ℕ) → All (λ x. x ≤ top) xs → All (λ x. x ≤ top + most) xs
All-more top most xs all = λ k d b. let here = all k d b in omega arith

-- no queue changed
sizes-same : (r after : ReactorHalf) (on : Option ℕ) → after.queues ≡ r.queues → (stream : ℕ) →
    size_at after stream ≤ size_at r stream + one_at stream on
sizes-same r after on same stream = rw same (omega arith)

performs-same : (most : ℕ) (on : Option ℕ) (r : ReactorHalf) → Performs most on r r
performs-same most on r = record {
  taken = refl;
  accepted = refl;
  now = refl;
  pending = omega arith;
  sizes = sizes-same r r on refl;
  together = together-ahead r;
  expiries = λ top b all. All-more top most r.expiries all;
}

performs-connected : (most : ℕ) (on : Option ℕ) (slot : Option ℕ) (op : ℕ) (r after : ReactorHalf) →
    Performs most on r after → Performs most on r (connected slot op after)
performs-connected most on None op r after performs = performs
performs-connected most on (Some slot) op r after performs = record {
  taken = performs.taken;
  accepted = performs.accepted;
  now = performs.now;
  pending = performs.pending;
  sizes = performs.sizes;
  together = performs.together;
  expiries = performs.expiries;
}

performs-wait : (most : ℕ) (on : Option ℕ) (op timer : ℕ) (r : ReactorHalf) →
    Performs most on r (wait_accepted op timer r)
performs-wait most on op timer r = record {
  taken = refl;
  accepted = refl;
  now = refl;
  pending = omega (arith, length-append r.waits (new ∷ []));
  sizes = sizes-same r (wait_accepted op timer r) on refl;
  together = λ ahead.
      together-from (wait_accepted op timer r) (expiry_of r new)
      (All-append (λ wait. (r.now < expiry_of r wait) ⊎ (expiry_of r wait ≡ expiry_of r new)) r.waits (new ∷ [])
      (λ k d b. inl (ahead k d b)) one);
  expiries = λ top b all. All-more top most r.expiries all;
}
  where
    new : Wait
    new = record { op = op; timer = timer }

    one : All (λ wait. (r.now < expiry_of r wait) ⊎ (expiry_of r wait ≡ expiry_of r new)) (new ∷ [])
    one zero d b = inr refl
    one (suc k) d b = absurd (omega arith)

performs-cancelled : (most : ℕ) (on : Option ℕ) (test : Wait → Bool) (r : ReactorHalf) →
    Performs most on r (waits_cancelled test r)
performs-cancelled most on test r = record {
  taken = refl;
  accepted = refl;
  now = refl;
  pending = let same = pending-completed (code.Aborted) test r.waits r.queues r.due in omega arith;
  sizes = sizes-same r (waits_cancelled test r) on refl;
  together = λ ahead.
      together-ahead (waits_cancelled test r)
      (All-filter (λ wait. not (test wait)) (λ wait. r.now < expiry_of r wait) r.waits ahead);
  expiries = λ top b all. All-more top most r.expiries all;
}

performs-expiry : (most : ℕ) (on : Option ℕ) (timer expiry : ℕ) (r : ReactorHalf) →
    ((top : ℕ) → r.now ≤ top → expiry ≤ top + most) → Performs most on r (expiry_set timer expiry r)
performs-expiry most on timer expiry r within = record {
  taken = refl;
  accepted = refl;
  now = refl;
  pending = let same = pending-completed (code.Aborted) (is_wait_of timer) r.waits r.queues r.due in omega arith;
  sizes = sizes-same r (expiry_set timer expiry r) on refl;
  together = λ ahead.
      together-ahead (expiry_set timer expiry r)
      (All-passing (λ wait. not (is_wait_of timer wait)) (λ wait. r.now < expiry_of r wait)
      (λ wait. r.now < get_or (set r.expiries timer expiry) wait.timer 0) r.waits other ahead);
  expiries = λ top b all.
      All-set (λ e. e ≤ top + most) r.expiries timer expiry (within top b) (All-more top most r.expiries all);
}
  where
    other : (wait : Wait) → r.now < expiry_of r wait → not (wait.timer == timer) ≡ true →
        r.now < get_or (set r.expiries timer expiry) wait.timer 0
    other wait ahead differs =
        let apart : wait.timer ≢ timer = λ same. absurd (grind (arith, nat_tests, same, differs)) in
        let here = get_or-set_other r.expiries timer wait.timer expiry 0 apart in
        omega arith

-- the queues of a stream changed, and what is due
pub pending-queues : (waits : List Wait) (queues : List StreamQueues) (due after : List Completion) (stream more : ℕ)
    (new : StreamQueues) →
    each_size new + length after ≤ each_size (get_or queues stream no_queues) + length due + more →
    pending_in waits (set queues stream new) after ≤ pending_in waits queues due + more
pending-queues waits queues due after stream more new b =
    elim (cases_lt stream (length queues)) [
      | inl within ↦ let sums = sum_by-set each_size queues stream new no_queues within in omega arith
      | inr past ↦
          let same = set_past queues stream new (omega arith) in
          let none = get_or_past queues stream no_queues (omega arith) in
          let few = rw none at b in
          rw same (omega arith)
    ]

-- one act less of what is due was taken in
performs-queues : (most : ℕ) (on : Option ℕ) (stream : ℕ) (r : ReactorHalf) (streams : List Stream) (new : StreamQueues)
    (after : List Completion) → each_size new + length after ≤ each_size (queues_at r stream) + length r.due + 1 →
    each_size new ≤ each_size (queues_at r stream) + one_at stream on →
    Performs most on r (record r { streams = streams; queues = set r.queues stream new; due = after })
performs-queues most on stream r streams new after b size = record {
  taken = refl;
  accepted = refl;
  now = refl;
  pending = pending-queues r.waits r.queues r.due after stream 1 new b;
  sizes = sizes-set r.queues stream new (λ stream. one_at stream on) size;
  together = together-ahead r;
  expiries = λ top within all. All-more top most r.expiries all;
}

performs-due : (most : ℕ) (on : Option ℕ) (done : Completion) (r : ReactorHalf) →
    Performs most on r (with_due (done ∷ []) r)
performs-due most on done r = record {
  taken = refl;
  accepted = refl;
  now = refl;
  pending = omega (arith, length-append r.due (done ∷ []));
  sizes = sizes-same r (with_due (done ∷ []) r) on refl;
  together = together-ahead r;
  expiries = λ top within all. All-more top most r.expiries all;
}

performs-if : (most : ℕ) (on : Option ℕ) (r first second : ReactorHalf) (b : Bool) → Performs most on r first →
    Performs most on r second → Performs most on r (cond b first second)
performs-if most on r first second true one two = one
performs-if most on r first second false one two = two

performs-read : (most op stream : ℕ) (reading : Reading) (r : ReactorHalf) →
    Performs most (Some stream) r (read_accepted op stream reading r)
performs-read most op stream reading r =
    let old = queues_at r stream in
    let new : StreamQueues = record old { reads = old.reads ++ new_pending op r.accepted reading ∷ [] } in
    let more = length-append old.reads (new_pending op r.accepted reading ∷ []) in
    performs-if most (Some stream) r (with_due (bad op ∷ []) r) (with_queues r stream new) old.closed
    (performs-due most (Some stream) (bad op) r) (performs-queues most (Some stream) stream r r.streams new r.due
    (omega arith) (let one = one-here stream in omega arith))

performs-write : (most op stream : ℕ) (writing : Writing) (r : ReactorHalf) →
    Performs most (Some stream) r (write_accepted op stream writing r)
performs-write most op stream writing r =
    let old = queues_at r stream in
    let new : StreamQueues = record old { writes = old.writes ++ new_pending op r.accepted writing ∷ [] } in
    let more = length-append old.writes (new_pending op r.accepted writing ∷ []) in
    performs-if most (Some stream) r (with_due (bad op ∷ []) r) (with_queues r stream new) old.closed
    (performs-due most (Some stream) (bad op) r) (performs-queues most (Some stream) stream r r.streams new r.due
    (omega arith) (let one = one-here stream in omega arith))

performs-one : (most : ℕ) (on : Option ℕ) (op stream : ℕ) (r : ReactorHalf) →
    Performs most on r (one_of_stream_cancelled op stream r)
performs-one most on op stream r =
    let old = queues_at r stream in
    let reads = left-aborted op old.reads in
    let writes = left-aborted op old.writes in
    let done : List Completion =
    all_aborted (filter (is_of op) old.reads) ++ all_aborted (filter (is_of op) old.writes) in
    let listed = length-append r.due done in
    let both = length-append (all_aborted (filter (is_of op) old.reads)) (all_aborted (filter (is_of op) old.writes)) in
    performs-queues most on stream r r.streams
    (record old {
      reads = filter (λ pending. not (is_of op pending)) old.reads;
      writes = filter (λ pending. not (is_of op pending)) old.writes;
    }) (r.due ++ done) (omega arith) (omega arith)

performs-shut : (most : ℕ) (on : Option ℕ) (stream : ℕ) (r : ReactorHalf) → Performs most on r (shut_at stream r)
performs-shut most on stream r =
    let old = queues_at r stream in
    let count = length-all_of_stream old.reads old.writes in
    let listed = length-append r.due (all_of_stream old.reads old.writes) in
    performs-queues most on stream r (changed_at stream closed_stream r.streams)
    (record { closed = true; reads = []; writes = [] }) (r.due ++ all_of_stream old.reads old.writes) (omega arith)
    (omega arith)

performs-closed : (most : ℕ) (on : Option ℕ) (stream : ℕ) (r : ReactorHalf) → Performs most on r (closed_at stream r)
performs-closed most on stream r =
    performs-if most on r r (shut_at stream r) (queues_at r stream).closed (performs-same most on r)
    (performs-shut most on stream r)

performs-operation : (most : ℕ) (on : Option ℕ) (given : Act) (op : ℕ) (r : ReactorHalf) →
    Performs most on r (operation_cancelled given op r)
performs-operation most on (act.Wait timer strand slot filter) op r = performs-cancelled most on (is_wait_for op) r
performs-operation most on (act.ReadSome stream size strand slot filter) op r = performs-one most on op stream r
performs-operation most on (act.ReadAll stream size strand slot filter) op r = performs-one most on op stream r
performs-operation most on (act.Until stream delimiter max strand slot filter) op r = performs-one most on op stream r
performs-operation most on (act.WriteSome stream bytes strand slot filter) op r = performs-one most on op stream r
performs-operation most on (act.WriteAll stream bytes strand slot filter) op r = performs-one most on op stream r
performs-operation most on (act.Post strand) op r = performs-same most on r
performs-operation most on (act.Defer strand) op r = performs-same most on r
performs-operation most on (act.Dispatch strand) op r = performs-same most on r
performs-operation most on (act.Expires timer after) op r = performs-same most on r
performs-operation most on (act.ExpiresAt timer at) op r = performs-same most on r
performs-operation most on (act.Cancel timer) op r = performs-same most on r
performs-operation most on (act.CancelOne timer) op r = performs-same most on r
performs-operation most on (act.Emit slot types) op r = performs-same most on r
performs-operation most on (act.Close stream) op r = performs-same most on r
performs-operation most on (act.Release guard) op r = performs-same most on r
performs-operation most on act.Stop op r = performs-same most on r

performs-emitted_to : (most : ℕ) (on : Option ℕ) (given : Option Act) (types op : ℕ) (r : ReactorHalf) →
    Performs most on r (emitted_to given types op r)
performs-emitted_to most on None types op r = performs-same most on r
performs-emitted_to most on (Some given) types op r =
    performs-if most on r (operation_cancelled given op r) r (is_reached given types)
    (performs-operation most on given op r) (performs-same most on r)

performs-emitted : (most : ℕ) (on : Option ℕ) (script : ScriptModel) (op : Option ℕ) (types : ℕ) (r : ReactorHalf) →
    Performs most on r (emitted script op types r)
performs-emitted most on script None types r = performs-same most on r
performs-emitted most on script (Some op) types r = performs-emitted_to most on (act_of script op) types op r

performs-one_wait : (most : ℕ) (on : Option ℕ) (wait : Option Wait) (r : ReactorHalf) →
    Performs most on r (one_wait_cancelled wait r)
performs-one_wait most on None r = performs-same most on r
performs-one_wait most on (Some wait) r = performs-cancelled most on (is_wait_for wait.op) r

performs-released : (most : ℕ) (on : Option ℕ) (guard : ℕ) (r : ReactorHalf) →
    Performs most on r (guard_released guard r)
performs-released most on guard r = record {
  taken = refl;
  accepted = refl;
  now = refl;
  pending = omega arith;
  sizes = sizes-same r (guard_released guard r) on refl;
  together = together-ahead r;
  expiries = λ top within all. All-more top most r.expiries all;
}

-- performing an act that fits
pub performs-act : (script : ScriptModel) (a : ℕ) (given : Act) (r : ReactorHalf) → FitsAct (header_of script) given →
    Performs (limits_of script.version).time (stream_of given) r (performed_act script a given r)
performs-act script a (act.Wait timer strand slot filter) r fits =
    performs-connected (limits_of script.version).time None slot a r (wait_accepted a timer r)
    (performs-wait (limits_of script.version).time None a timer r)
performs-act script a (act.ReadSome stream size strand slot filter) r fits =
    performs-connected (limits_of script.version).time (Some stream) slot a r
    (read_accepted a stream (Some_bytes size) r)
    (performs-read (limits_of script.version).time a stream (Some_bytes size) r)
performs-act script a (act.ReadAll stream size strand slot filter) r fits =
    performs-connected (limits_of script.version).time (Some stream) slot a r
    (read_accepted a stream (All_bytes size) r)
    (performs-read (limits_of script.version).time a stream (All_bytes size) r)
performs-act script a (act.Until stream delimiter max strand slot filter) r fits =
    performs-connected (limits_of script.version).time (Some stream) slot a r
    (read_accepted a stream (Until delimiter max) r)
    (performs-read (limits_of script.version).time a stream (Until delimiter max) r)
performs-act script a (act.WriteSome stream bytes strand slot filter) r fits =
    performs-connected (limits_of script.version).time (Some stream) slot a r
    (write_accepted a stream (Some_of bytes) r)
    (performs-write (limits_of script.version).time a stream (Some_of bytes) r)
performs-act script a (act.WriteAll stream bytes strand slot filter) r fits =
    performs-connected (limits_of script.version).time (Some stream) slot a r (write_accepted a stream (All_of bytes) r)
    (performs-write (limits_of script.version).time a stream (All_of bytes) r)
performs-act script a (act.Expires timer after) r fits =
    performs-expiry (limits_of script.version).time None timer (r.now + after) r (λ top b. let most = fits.1 in omega arith)
performs-act script a (act.ExpiresAt timer at) r fits =
    performs-expiry (limits_of script.version).time None timer at r (λ top b. let most = fits.1 in omega arith)
performs-act script a (act.Cancel timer) r fits =
    performs-cancelled (limits_of script.version).time None (is_wait_of timer) r
performs-act script a (act.CancelOne timer) r fits =
    performs-one_wait (limits_of script.version).time None (find (is_wait_of timer) r.waits) r
performs-act script a (act.Emit slot types) r fits =
    performs-emitted (limits_of script.version).time None script (get_or r.slots slot None) types r
performs-act script a (act.Close stream) r fits = performs-closed (limits_of script.version).time None stream r
performs-act script a (act.Release guard) r fits = performs-released (limits_of script.version).time None guard r
performs-act script a (act.Post strand) r fits = performs-same (limits_of script.version).time None r
performs-act script a (act.Defer strand) r fits = performs-same (limits_of script.version).time None r
performs-act script a (act.Dispatch strand) r fits = performs-same (limits_of script.version).time None r
performs-act script a act.Stop r fits = performs-same (limits_of script.version).time None r

pub performs-by : (script : ScriptModel) (a : ℕ) (given : Option Act) (r : ReactorHalf) →
    ((it : Act) → given ≡ Some it → FitsAct (header_of script) it) →
    Performs (limits_of script.version).time (stream_asked given) r (performed_by script a given r)
performs-by script a None r fits = performs-same (limits_of script.version).time None r
performs-by script a (Some given) r fits = performs-act script a given r (fits given refl)
