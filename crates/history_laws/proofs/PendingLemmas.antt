-- How often an operation is pending, while the reactor turns.
use Rattle.std.proofs.Common.{◌≡◌, ℕ, ◌+◌, ◌<◌, ◌≤◌, ◌==◌, nat_le, nat_lt, Bool, true, false, not, ◌&&◌, cond, List, [], ◌∷◌, ◌++◌, Option, Some, None, map, filter, find, drop, length, set, zero, suc, inl, inr, refl, sym, ap, ◌∙◌, arith}
use Rattle.std.specs.List.{count_by, sum_by, slice_get, slice_index_or}
use Rattle.std.proofs.lemmas.Bool.{cases_lt}
use Rattle.std.proofs.lemmas.List.{get_or_past, set_past}
use Rattle.std.proofs.lemmas.List.Filters.{sum_by-filter_both}
use Rattle.std.proofs.lemmas.List.Sums.{sum_by-append, sum_by-cons, sum_by-set}
use Rattle.asio_types.specs.declared.code.Code.{Code}
use Rattle.session_script.specs.declared.act.Act.{Act}
use Rattle.session_script.specs.declared.act.Act.TheVariants as act
use Rattle.session_script.specs.Script.{ScriptModel, act_of, is_operation}
use Rattle.stream_rules.specs.declared.queue.Completion.{Completion}
use Rattle.stream_rules.specs.Queue.{Pending, QueueServed, Side, reading_side, served_head, served_queue, writing_side}
use Rattle.stream_rules.specs.Serving.{Outcome, Reading, Writing, Some_bytes, All_bytes, Until, Some_of, All_of}
use Rattle.stream_rules.specs.Stream.{Stream, closed_stream}
use Rattle.stream_rules.specs.World.{changed_at, stream_at}
use Rattle.history_rules.specs.Performing.{aborted, all_aborted, all_of_stream, bad, connected, emitted, emitted_to, is_of, is_reached, is_wait_for, is_wait_of, new_pending, one_of_stream_cancelled, one_wait_cancelled, operation_cancelled, performed_act, queues_at, read_accepted, shut_at, wait_accepted, waits_cancelled, with_due, with_queues, with_writes, write_accepted}
use Rattle.history_rules.specs.Requests.{MayTell, disconnected, reactor_after_done, slot_in, told_off}
use Rattle.history_rules.specs.Settling.{expiry_of, is_due, put_by, served_at, served_below, served_stream, settled, sorted_by, waited, with_waits_served}
use Rattle.history_rules.specs.State.{ReactorHalf, StreamQueues, no_queues}
use Rattle.history_rules.specs.declared.wait.Wait.{Wait}
use Rattle.history_rules.specs.Untold.{MayGiveUntold, gone, head_of, read_gone, reading_place, write_gone, writing_place}
use Rattle.history_laws.proofs.CountLemmas.{count-push, one_if}
use Rattle.history_laws.proofs.Sound.{due_of, pending_of, queued_of}

count-cons : {X : Type 0} (p : X → Bool) (x : X) (xs : List X) → count_by p (x ∷ xs) ≡ one_if (p x) + count_by p xs
count-cons p x xs = sum_by-cons (λ x. cond (p x) 1 0) x xs

count-append : {X : Type 0} (p : X → Bool) (xs ys : List X) → count_by p (xs ++ ys) ≡ count_by p xs + count_by p ys
count-append p xs ys = sum_by-append (λ x. cond (p x) 1 0) xs ys

count-map : {X Y : Type 0} (p : Y → Bool) (f : X → Y) (xs : List X) → count_by p (map f xs) ≡ count_by (λ x. p (f x)) xs
count-map p f [] = refl
count-map p f (x ∷ xs) =
    let one = count-cons p (f x) (map f xs) in
    let two = count-cons (λ x. p (f x)) x xs in omega (arith, one, two, count-map p f xs)

count-parted : {X : Type 0} (p test : X → Bool) (xs : List X) →
    count_by p (filter test xs) + count_by p (filter (λ x. not (test x)) xs) ≡ count_by p xs
count-parted p test xs =
    sum_by-filter_both test (λ x. not (test x)) (λ x. refl) (λ x. cond (p x) 1 0) xs

count-put : {X : Type 0} (p : X → Bool) (key : X → ℕ) (x : X) (xs : List X) →
    count_by p (put_by key x xs) ≡ one_if (p x) + count_by p xs
count-put p key x [] = count-cons p x []
count-put p key x (y ∷ ys) = by_test (nat_le (key x) (key y)) (count-put p key x ys)
  where
    by_test : (b : Bool) → count_by p (put_by key x ys) ≡ one_if (p x) + count_by p ys →
        count_by p (cond b (x ∷ (y ∷ ys)) (y ∷ put_by key x ys)) ≡ one_if (p x) + count_by p (y ∷ ys)
    by_test true rest = count-cons p x (y ∷ ys)
    by_test false rest =
        let one = count-cons p y (put_by key x ys) in
        let two = count-cons p y ys in omega (arith, one, two, rest)

count-sorted : {X : Type 0} (p : X → Bool) (key : X → ℕ) (xs : List X) → count_by p (sorted_by key xs) ≡ count_by p xs
count-sorted p key [] = refl
count-sorted p key (x ∷ xs) =
    let one = count-put p key x (sorted_by key xs) in
    let two = count-cons p x xs in omega (arith, one, two, count-sorted p key xs)

module _ (n : ℕ) where
  -- one more, for the operation with this number
  abbrev more : ℕ → ℕ
  more op = one_if (op == n)

  -- an operation that is due is one that was pending
  pub due_aborted : (waits : List Wait) → due_of n (map (λ wait. aborted wait.op 0) waits) ≡ count_by (is_wait_for n) waits
  due_aborted waits = count-map (λ (done : Completion). done.op == n) (λ (wait : Wait). aborted wait.op 0) waits

  due_all : {Asks : Type 0} (queue : List (Pending Asks)) → due_of n (all_aborted queue) ≡ count_by (is_of n) queue
  due_all {Asks} queue =
      count-map (λ (done : Completion). done.op == n) (λ (pending : Pending Asks). aborted pending.op pending.moved) queue

  waits_gone : (test : Wait → Bool) (r : ReactorHalf) → pending_of n (waits_cancelled test r) ≡ pending_of n r
  waits_gone test r =
      let parted = count-parted (is_wait_for n) test r.waits in
      let due = due_aborted (filter test r.waits) in
      let all = count-append (λ (done : Completion). done.op == n) r.due
      (map (λ wait. aborted wait.op 0) (filter test r.waits)) in
      omega (arith, parted, due, all)

  -- the queues of a stream changed, and what is due
  queues_changed : (r : ReactorHalf) (streams : List Stream) (stream k : ℕ) (new : StreamQueues) (due : List Completion) →
      queued_of n new + due_of n due ≤ queued_of n (queues_at r stream) + due_of n r.due + k →
      pending_of n (record r { streams = streams; queues = set r.queues stream new; due = due }) ≤ pending_of n r + k
  queues_changed r streams stream k new due less = elim (cases_lt stream (length r.queues)) [
    | inl within ↦
        let sums = sum_by-set (queued_of n) r.queues stream new no_queues within in omega (arith, sums, less)
    | inr past ↦
        let same : set r.queues stream new ≡ r.queues = set_past r.queues stream new (omega (arith, past)) in
        let none : queues_at r stream ≡ no_queues = get_or_past r.queues stream no_queues (omega (arith, past)) in
        let few : due_of n due ≤ due_of n r.due + k =
        (let zero : queued_of n (queues_at r stream) ≡ 0 = ap (queued_of n) none in omega (arith, less, zero)) in
        let sums : sum_by (queued_of n) (set r.queues stream new) ≡ sum_by (queued_of n) r.queues =
        ap (sum_by (queued_of n)) same in
        omega (arith, few, sums)
  ]

  due_one : (r : ReactorHalf) (done : Completion) → pending_of n (with_due (done ∷ []) r) ≤ pending_of n r + more done.op
  due_one r done =
      let pushed = count-push (λ (done : Completion). done.op == n) r.due done in omega (arith, pushed)

  if_both : (k : ℕ) (b : Bool) (first second : ReactorHalf) → pending_of n first ≤ k → pending_of n second ≤ k →
      pending_of n (cond b first second) ≤ k
  if_both k true first second one two = one
  if_both k false first second one two = two

  read_one : (op stream : ℕ) (reading : Reading) (r : ReactorHalf) →
      pending_of n (read_accepted op stream reading r) ≤ pending_of n r + more op
  read_one op stream reading r =
      let old : StreamQueues = queues_at r stream in
      let new : StreamQueues = record old { reads = old.reads ++ new_pending op r.accepted reading ∷ [] } in
      let pushed = count-push (is_of n) old.reads (new_pending op r.accepted reading) in
      if_both (pending_of n r + more op) old.closed (with_due (bad op ∷ []) r) (with_queues r stream new)
      (due_one r (bad op)) (queues_changed r r.streams stream (more op) new r.due (omega (arith, pushed)))

  write_one : (op stream : ℕ) (writing : Writing) (r : ReactorHalf) →
      pending_of n (write_accepted op stream writing r) ≤ pending_of n r + more op
  write_one op stream writing r =
      let old : StreamQueues = queues_at r stream in
      let new : StreamQueues = record old { writes = old.writes ++ new_pending op r.accepted writing ∷ [] } in
      let pushed = count-push (is_of n) old.writes (new_pending op r.accepted writing) in
      if_both (pending_of n r + more op) old.closed (with_due (bad op ∷ []) r) (with_queues r stream new)
      (due_one r (bad op)) (queues_changed r r.streams stream (more op) new r.due (omega (arith, pushed)))

  wait_one : (op timer : ℕ) (r : ReactorHalf) → pending_of n (wait_accepted op timer r) ≤ pending_of n r + more op
  wait_one op timer r =
      let new : Wait = record { op = op; timer = timer } in
      let pushed = count-push (is_wait_for n) r.waits new in omega (arith, pushed)

  connected_same : (slot : Option ℕ) (op : ℕ) (r : ReactorHalf) → pending_of n (connected slot op r) ≡ pending_of n r
  connected_same None op r = refl
  connected_same (Some slot) op r = refl

  one_gone : (op stream : ℕ) (r : ReactorHalf) → pending_of n (one_of_stream_cancelled op stream r) ≤ pending_of n r
  one_gone op stream r =
      let old : StreamQueues = queues_at r stream in
      let new : StreamQueues = record old {
        reads = filter (λ pending. not (is_of op pending)) old.reads;
        writes = filter (λ pending. not (is_of op pending)) old.writes;
      } in
      let reads : List Completion = all_aborted (filter (is_of op) old.reads) in
      let writes : List Completion = all_aborted (filter (is_of op) old.writes) in
      let a = count-parted (is_of n) (is_of op) old.reads in
      let b = count-parted (is_of n) (is_of op) old.writes in
      let e = due_all (filter (is_of op) old.reads) in
      let f = due_all (filter (is_of op) old.writes) in
      let g = count-append (λ (done : Completion). done.op == n) reads writes in
      let h = count-append (λ (done : Completion). done.op == n) r.due (reads ++ writes) in
      let changed = queues_changed r r.streams stream 0 new (r.due ++ (reads ++ writes)) (omega (arith, a, b, e, f, g, h)) in
      omega (arith, changed)

  due_with : (accepted k : ℕ) (read : Completion) (later : List (Pending Writing) → List Completion) →
      ((rest : List (Pending Writing)) → due_of n (later rest) ≤ k + count_by (is_of n) rest) →
      (writes : List (Pending Writing)) →
      due_of n (with_writes accepted read later writes) ≤ more read.op + k + count_by (is_of n) writes
  due_with accepted k read later few [] =
      let one = count-cons (λ (done : Completion). done.op == n) read (later []) in omega (arith, one, few [])
  due_with accepted k read later few (write ∷ writes) =
      by_test (nat_lt accepted write.accepted) (due_with accepted k read later few writes)
    where
      by_test : (b : Bool) →
          due_of n (with_writes accepted read later writes) ≤ more read.op + k + count_by (is_of n) writes →
          due_of n (cond b (read ∷ later (write ∷ writes))
          (aborted write.op write.moved ∷ with_writes accepted read later writes))
          ≤ more read.op + k + count_by (is_of n) (write ∷ writes)
      by_test true rest =
          let one = count-cons (λ (done : Completion). done.op == n) read (later (write ∷ writes)) in
          omega (arith, one, few (write ∷ writes))
      by_test false rest =
          let one = count-cons (λ (done : Completion). done.op == n) (aborted write.op write.moved)
          (with_writes accepted read later writes) in
          let two = count-cons (is_of n) write writes in
          omega (arith, one, two, rest)

  due_of_stream : (reads : List (Pending Reading)) (writes : List (Pending Writing)) →
      due_of n (all_of_stream reads writes) ≤ count_by (is_of n) reads + count_by (is_of n) writes
  due_of_stream [] writes = let all = due_all writes in omega (arith, all)
  due_of_stream (read ∷ reads) writes =
      let one = count-cons (is_of n) read reads in
      let all = due_with read.accepted (count_by (is_of n) reads) (aborted read.op read.moved) (all_of_stream reads)
      (due_of_stream reads) writes in
      omega (arith, one, all)

  shut : (stream : ℕ) (r : ReactorHalf) → pending_of n (shut_at stream r) ≤ pending_of n r
  shut stream r =
      let old : StreamQueues = queues_at r stream in
      let few = due_of_stream old.reads old.writes in
      let all = count-append (λ (done : Completion). done.op == n) r.due (all_of_stream old.reads old.writes) in
      let changed = queues_changed r (changed_at stream closed_stream r.streams) stream 0
      (record { closed = true; reads = []; writes = [] }) (r.due ++ all_of_stream old.reads old.writes)
      (omega (arith, few, all)) in
      omega (arith, changed)

  cancelled_one : (given : Act) (op : ℕ) (r : ReactorHalf) → pending_of n (operation_cancelled given op r) ≤ pending_of n r
  cancelled_one (act.Wait timer strand slot filter) op r = let same = waits_gone (is_wait_for op) r in omega (arith, same)
  cancelled_one (act.ReadSome stream size strand slot filter) op r = one_gone op stream r
  cancelled_one (act.ReadAll stream size strand slot filter) op r = one_gone op stream r
  cancelled_one (act.Until stream delimiter max strand slot filter) op r = one_gone op stream r
  cancelled_one (act.WriteSome stream bytes strand slot filter) op r = one_gone op stream r
  cancelled_one (act.WriteAll stream bytes strand slot filter) op r = one_gone op stream r
  cancelled_one _ op r = omega arith

  emitted_one : (script : ScriptModel) (op : Option ℕ) (types : ℕ) (r : ReactorHalf) →
      pending_of n (emitted script op types r) ≤ pending_of n r
  emitted_one script None types r = omega arith
  emitted_one script (Some op) types r = by_act (act_of script op)
    where
      by_act : (given : Option Act) → pending_of n (emitted_to given types op r) ≤ pending_of n r
      by_act None = omega arith
      by_act (Some given) =
          if_both (pending_of n r) (is_reached given types) (operation_cancelled given op r) r (cancelled_one given op r)
          (omega arith)

  one_wait : (wait : Option Wait) (r : ReactorHalf) → pending_of n (one_wait_cancelled wait r) ≤ pending_of n r
  one_wait None r = omega arith
  one_wait (Some wait) r = let same = waits_gone (is_wait_for wait.op) r in omega (arith, same)

  -- an act that is performed is pending at most once more, where it is an operation
  pub performed_one : (script : ScriptModel) (a : ℕ) (given : Act) (r : ReactorHalf) →
      pending_of n (performed_act script a given r) ≤ pending_of n r + one_if (is_operation given && (a == n))
  performed_one script a (act.Wait timer strand slot filter) r =
      let same = connected_same slot a (wait_accepted a timer r) in omega (arith, same, wait_one a timer r)
  performed_one script a (act.ReadSome stream size strand slot filter) r =
      let same = connected_same slot a (read_accepted a stream (Some_bytes size) r) in
      omega (arith, same, read_one a stream (Some_bytes size) r)
  performed_one script a (act.ReadAll stream size strand slot filter) r =
      let same = connected_same slot a (read_accepted a stream (All_bytes size) r) in
      omega (arith, same, read_one a stream (All_bytes size) r)
  performed_one script a (act.Until stream delimiter max strand slot filter) r =
      let same = connected_same slot a (read_accepted a stream (Until delimiter max) r) in
      omega (arith, same, read_one a stream (Until delimiter max) r)
  performed_one script a (act.WriteSome stream bytes strand slot filter) r =
      let same = connected_same slot a (write_accepted a stream (Some_of bytes) r) in
      omega (arith, same, write_one a stream (Some_of bytes) r)
  performed_one script a (act.WriteAll stream bytes strand slot filter) r =
      let same = connected_same slot a (write_accepted a stream (All_of bytes) r) in
      omega (arith, same, write_one a stream (All_of bytes) r)
  performed_one script a (act.Expires timer after) r =
      let same = waits_gone (is_wait_of timer) (record r { expiries = set r.expiries timer (r.now + after) }) in
      omega (arith, same)
  performed_one script a (act.ExpiresAt timer at) r =
      let same = waits_gone (is_wait_of timer) (record r { expiries = set r.expiries timer at }) in omega (arith, same)
  performed_one script a (act.Cancel timer) r = let same = waits_gone (is_wait_of timer) r in omega (arith, same)
  performed_one script a (act.CancelOne timer) r =
      let few = one_wait (find (is_wait_of timer) r.waits) r in omega (arith, few)
  performed_one script a (act.Emit slot types) r =
      let few = emitted_one script (slice_index_or r.slots slot None) types r in omega (arith, few)
  performed_one script a (act.Close stream) r =
      let few = if_both (pending_of n r) (queues_at r stream).closed r (shut_at stream r) (omega arith) (shut stream r) in
      omega (arith, few)
  performed_one script a (act.Release guard) r = omega arith
  performed_one script a (act.Post strand) r = omega arith
  performed_one script a (act.Defer strand) r = omega arith
  performed_one script a (act.Dispatch strand) r = omega arith
  performed_one script a act.Stop r = omega arith

  -- what a queue serves was in it
  abbrev passed : {Asks : Type 0} → QueueServed Asks → ℕ
  passed served = due_of n served.completed + count_by (is_of n) served.staying

  head_one : {Asks : Type 0} (head : Pending Asks) (queue : List (Pending Asks)) (used : ℕ) (left : Stream)
      (rest : QueueServed Asks) (outcome : Option Outcome) → passed rest ≡ count_by (is_of n) queue →
      passed (served_head head queue used left rest outcome) ≡ count_by (is_of n) (head ∷ queue)
  head_one head queue used left rest None same =
      let one = count-cons (is_of n) (record head { moved = head.moved + used }) queue in
      let two = count-cons (is_of n) head queue in omega (arith, one, two)
  head_one head queue used left rest (Some outcome) same =
      let done : Completion = record { op = head.op; outcome = outcome } in
      let one = count-cons (λ (done : Completion). done.op == n) done rest.completed in
      let two = count-cons (is_of n) head queue in omega (arith, one, two, same)

  served_one : {Asks : Type 0} (side : Side Asks) (queue : List (Pending Asks)) (stream : Stream) →
      passed (served_queue side queue stream) ≡ count_by (is_of n) queue
  served_one side [] stream = refl
  served_one side (head ∷ queue) stream =
      let served = side.served head.asks head.moved stream in
      let left = side.after head.asks head.moved served.used stream in
      head_one head queue served.used left (served_queue side queue left) served.outcome
      (served_one side queue left)

  served_stream_one : (stream : Stream) (queues : StreamQueues) →
      due_of n (served_stream stream queues).completed + queued_of n (served_stream stream queues).queues ≡ queued_of n queues
  served_stream_one stream queues =
      let reads : QueueServed Reading = served_queue reading_side queues.reads stream in
      let writes : QueueServed Writing = served_queue writing_side queues.writes reads.stream in
      let one = served_one reading_side queues.reads stream in
      let two = served_one writing_side queues.writes reads.stream in
      let all = count-append (λ (done : Completion). done.op == n) reads.completed writes.completed in
      omega (arith, one, two, all)

  served_at_one : (stream : ℕ) (r : ReactorHalf) → pending_of n (served_at stream r) ≤ pending_of n r
  served_at_one stream r =
      let served = served_stream (stream_at r.streams stream) (queues_at r stream) in
      let one = served_stream_one (stream_at r.streams stream) (queues_at r stream) in
      let all = count-append (λ (done : Completion). done.op == n) r.due served.completed in
      let changed = queues_changed r (set r.streams stream served.stream) stream 0 served.queues (r.due ++ served.completed)
      (omega (arith, one, all)) in
      omega (arith, changed)

  served_below_one : (k : ℕ) (r : ReactorHalf) → pending_of n (served_below k r) ≤ pending_of n r
  served_below_one zero r = omega arith
  served_below_one (suc k) r =
      omega (arith, served_at_one k (served_below k r), served_below_one k r)

  waits_served : (r : ReactorHalf) → pending_of n (with_waits_served r) ≡ pending_of n r
  waits_served r =
      let parted = count-parted (is_wait_for n) (is_due r) r.waits in
      let ready : List Wait = sorted_by (expiry_of r) (filter (is_due r) r.waits) in
      let due : due_of n (map waited ready) ≡ count_by (is_wait_for n) ready =
      count-map (λ (done : Completion). done.op == n) waited ready in
      let sorted = count-sorted (is_wait_for n) (expiry_of r) (filter (is_due r) r.waits) in
      let all = count-append (λ (done : Completion). done.op == n) r.due (map waited ready) in
      omega (arith, parted, due, sorted, all)

  -- a turn that settles moves what is pending to what is due
  pub settled_one : (told : Bool) (r : ReactorHalf) → pending_of n (settled told r) ≤ pending_of n r
  settled_one told r =
      let whole : ReactorHalf = record (with_waits_served r) { whole_turn = true; reached = 0 } in
      let same = waits_served r in
      let few = if_both (pending_of n whole) told (served_below (length whole.queues) whole) whole
      (served_below_one (length whole.queues) whole) (omega arith) in
      omega (arith, same, few)

  -- a completion leaves what is pending
  abbrev TellsOne : ℕ → ReactorHalf → ReactorHalf → Type 0
  TellsOne o r t = pending_of n t + more o ≤ pending_of n r

  disconnected_same : (o : ℕ) (slot : Option ℕ) (r : ReactorHalf) →
      pending_of n (disconnected o slot r) ≡ pending_of n r
  disconnected_same o None r = refl
  disconnected_same o (Some slot) r = refl

  told_due : (script : ScriptModel) (o : ℕ) (r : ReactorHalf) (due : List Completion) (head : Completion) →
      slice_get due 0 ≡ Some head → head.op ≡ o → r.due ≡ due → TellsOne o r (told_off script o r due)
  told_due script o r [] head first is same = absurd (cc)
  told_due script o r (next ∷ due) head first is same =
      let it : next ≡ head = cc in
      let op : next.op ≡ o = ap (λ (done : Completion). done.op) it ∙ is in
      let one = count-cons (λ (done : Completion). done.op == n) next due in
      let here : one_if (next.op == n) ≡ one_if (o == n) = ap (λ o. one_if (o == n)) op in
      let all : due_of n r.due ≡ due_of n (next ∷ due) = ap (due_of n) same in
      omega (arith, one, here, all)

  headed : {Asks : Type 0} (queue : List (Pending Asks)) (o : ℕ) → head_of queue ≡ Some o →
      count_by (is_of n) (drop 1 queue) + more o ≡ count_by (is_of n) queue
  headed [] o first = absurd (cc)
  headed (pending ∷ queue) o first =
      let op : pending.op ≡ o = cc in
      let one = count-cons (is_of n) pending queue in
      let here : one_if (pending.op == n) ≡ one_if (o == n) = ap (λ o. one_if (o == n)) op in
      omega (arith, one, here)

  one_less : (r : ReactorHalf) (stream o : ℕ) (new : StreamQueues) (reached : ℕ) → stream < length r.queues →
      queued_of n new + more o ≡ queued_of n (queues_at r stream) →
      TellsOne o r (record (with_queues r stream new) { reached = reached })
  one_less r stream o new reached within less =
      let sums = sum_by-set (queued_of n) r.queues stream new no_queues within in omega (arith, sums, less)

  stream_there : {Asks : Type 0} (r : ReactorHalf) (stream o : ℕ) (queue : StreamQueues → List (Pending Asks)) →
      queue no_queues ≡ [] → head_of (queue (queues_at r stream)) ≡ Some o → stream < length r.queues
  stream_there {Asks} r stream o queue none first = elim (cases_lt stream (length r.queues)) [
    | inl within ↦ within
    | inr past ↦
        let same : queues_at r stream ≡ no_queues = get_or_past r.queues stream no_queues past in
        let empty : head_of (queue (queues_at r stream)) ≡ None =
        ap (λ queues. head_of (queue queues)) same ∙ ap (λ (queue : List (Pending Asks)). head_of queue) none in
        absurd (let wrong : None ≡ Some o = sym empty ∙ first in cc)
  ]

  read_less : (r : ReactorHalf) (stream o : ℕ) → head_of (queues_at r stream).reads ≡ Some o → TellsOne o r (read_gone stream r)
  read_less r stream o first =
      let within = stream_there r stream o (λ queues. queues.reads) refl first in
      let less = headed (queues_at r stream).reads o first in
      one_less r stream o (record (queues_at r stream) { reads = drop 1 (queues_at r stream).reads }) (reading_place stream)
      within (omega (arith, less))

  write_less : (r : ReactorHalf) (stream o : ℕ) → head_of (queues_at r stream).writes ≡ Some o →
      TellsOne o r (write_gone stream r)
  write_less r stream o first =
      let within = stream_there r stream o (λ queues. queues.writes) refl first in
      let less = headed (queues_at r stream).writes o first in
      one_less r stream o (record (queues_at r stream) { writes = drop 1 (queues_at r stream).writes }) (writing_place stream)
      within (omega (arith, less))

  gone_less : (given : Option Act) (r : ReactorHalf) (o : ℕ) (code : Code) (size : ℕ) → MayGiveUntold r o given code size →
      TellsOne o r (gone given r)
  gone_less (Some (act.ReadSome stream most strand slot filter)) r o code size may = read_less r stream o may.head
  gone_less (Some (act.ReadAll stream most strand slot filter)) r o code size may = read_less r stream o may.head
  gone_less (Some (act.Until stream delimiter max strand slot filter)) r o code size may = read_less r stream o may.head
  gone_less (Some (act.WriteSome stream bytes strand slot filter)) r o code size may = write_less r stream o may.head
  gone_less (Some (act.WriteAll stream bytes strand slot filter)) r o code size may = write_less r stream o may.head
  gone_less _ r o code size may = absurd may

  told_gone : (script : ScriptModel) (o : ℕ) (r : ReactorHalf) (code : Code) (size : ℕ) (due : List Completion) → due ≡ [] →
      MayGiveUntold r o (act_of script o) code size → TellsOne o r (told_off script o r due)
  told_gone script o r code size [] none may = gone_less (act_of script o) r o code size may
  told_gone script o r code size (next ∷ due) none may = absurd (cc)

  -- an operation that completes was pending, and is so once less
  pub told_one : (script : ScriptModel) (told : Bool) (o : ℕ) (code : Code) (size : ℕ) (r : ReactorHalf) →
      MayTell script told r o code size → TellsOne o r (reactor_after_done script r o)
  told_one script told o code size r may =
      let same = disconnected_same o (slot_in (act_of script o)) (record (told_off script o r r.due) { whole_turn = false }) in
      elim may [
        | inl next ↦ let less = told_due script o r r.due next.head next.due next.is_op refl in omega (arith, same, less)
        | inr given ↦ let less = told_gone script o r code size r.due given.fixed given.given in omega (arith, same, less)
      ]
