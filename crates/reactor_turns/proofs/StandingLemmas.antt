-- How often an operation stands among what the reactor has to complete, turn by turn.
use Rattle.std.proofs.Common.{◌≡◌, ℕ, zero, suc, ◌+◌, ◌<◌, ◌≤◌, Bool, true, false, not, cond, List, ◌∷◌, ◌++◌, Option, Some, None, inl, inr, drop, filter, get_or, set, length, map, refl, sym, ap, ◌∙◌, arith, []}
use Rattle.std.specs.Prelude.{◌==◌, count_by, find, nat_le, nat_lt, slice_get, sum_by}
use Rattle.std.proofs.lemmas.Bool.{cases_lt}
use Rattle.std.proofs.lemmas.List.{get_or_past, set_past}
use Rattle.std.proofs.lemmas.List.Filters.{sum_by-filter_both}
use Rattle.std.proofs.lemmas.List.Sums.{sum_by-append, sum_by-cons, sum_by-set}
use Rattle.asio_types.specs.declared.code.Code.{Code}
use Rattle.session_script.specs.declared.act.Act.{Act}
use Rattle.session_script.specs.declared.act.Act.TheVariants as act
use Rattle.session_script.specs.Script.{ScriptModel, act_of}
use Rattle.session_script.specs.WellFormed.{FitsAct, header_of}
use Rattle.stream_rules.specs.declared.queue.Completion.{Completion}
use Rattle.stream_rules.specs.Queue.{Pending, Side, reading_side, served_head, served_queue, writing_side}
use Rattle.stream_rules.specs.Serving.{All_bytes, All_of, Outcome, Reading, Some_bytes, Some_of, Until, Writing}
use Rattle.stream_rules.specs.Stream.{Stream}
use Rattle.stream_rules.specs.World.{stream_at}
use Rattle.history_rules.specs.Performing.{aborted, all_aborted, all_of_stream, bad, closed_at, connected, emitted, emitted_to, is_of, is_reached, is_wait_for, is_wait_of, new_pending, one_of_stream_cancelled, one_wait_cancelled, operation_cancelled, performed, performed_act, performed_by, queues_at, read_accepted, shut_at, wait_accepted, waits_cancelled, with_writes, write_accepted}
use Rattle.history_rules.specs.Requests.{MayTell, disconnected, reactor_after_done, reactor_after_take, slot_in, told_off}
use Rattle.history_rules.specs.Settling.{due_waits, expiry_of, is_due, put_by, served_at, served_below, served_stream, settled, sorted_by, waited, with_streams_served, with_waits_served}
use Rattle.history_rules.specs.State.{ReactorHalf, StreamQueues, no_queues}
use Rattle.history_rules.specs.declared.wait.Wait.{Wait}
use Rattle.history_rules.specs.Time.{at_last, at_time, reactor_after_last, reactor_after_tick}
use Rattle.history_rules.specs.Untold.{MayGiveUntold, gone, head_of, read_gone, write_gone}
use Rattle.reactor_turns.specs.Standing.{is_awaited}
use Rattle.reactor_turns.specs.Standing.{is_completion_of, queued_of, stands}
use Rattle.reactor_turns.proofs.SummingLemmas.{one_if}

-- one more in a list
count-cons : {X : Type 0} (p : X → Bool) (x : X) (xs : List X) → count_by p (x ∷ xs) ≡ one_if (p x) + count_by p xs
count-cons p x xs = sum_by-cons (λ y. cond (p y) 1 0) x xs

count-append : {X : Type 0} (p : X → Bool) (xs ys : List X) → count_by p (xs ++ ys) ≡ count_by p xs + count_by p ys
count-append p xs ys = sum_by-append (λ y. cond (p y) 1 0) xs ys

-- of a list as of another whose elements pass as these do
count-map : {X Y : Type 0} (p : X → Bool) (q : Y → Bool) (f : X → Y) (xs : List X) → ((x : X) → q (f x) ≡ p x) →
    count_by q (map f xs) ≡ count_by p xs
count-map p q f [] same = refl
count-map p q f (x ∷ xs) same =
    let one = count-cons q (f x) (map f xs) in
    let two = count-cons p x xs in
    let rest = count-map p q f xs same in
    let here = ap one_if (same x) in
    omega (arith, one, two, rest, here)

count-put : {X : Type 0} (p : X → Bool) (key : X → ℕ) (x : X) (xs : List X) →
    count_by p (put_by key x xs) ≡ one_if (p x) + count_by p xs
count-put p key x [] = count-cons p x []
count-put p key x (first ∷ rest) = by_test (nat_le (key x) (key first)) (count-put p key x rest)
  where
    by_test : (b : Bool) → count_by p (put_by key x rest) ≡ one_if (p x) + count_by p rest →
        count_by p (cond b (x ∷ (first ∷ rest)) (first ∷ put_by key x rest)) ≡ one_if (p x) + count_by p (first ∷ rest)
    by_test true more = count-cons p x (first ∷ rest)
    by_test false more =
        let one = count-cons p first (put_by key x rest) in
        let two = count-cons p first rest in omega (arith, one, two, more)

count-sorted : {X : Type 0} (p : X → Bool) (key : X → ℕ) (xs : List X) → count_by p (sorted_by key xs) ≡ count_by p xs
count-sorted p key [] = refl
count-sorted p key (x ∷ xs) =
    let here = count-put p key x (sorted_by key xs) in
    let rest = count-sorted p key xs in
    let two = count-cons p x xs in
    omega (arith, here, rest, two)

-- what passes a test and what doesn't
count-parts : {X : Type 0} (p test : X → Bool) (xs : List X) →
    count_by p (filter test xs) + count_by p (filter (λ x. not (test x)) xs) ≡ count_by p xs
count-parts p test xs = sum_by-filter_both test (λ x. not (test x)) (λ x. refl) (λ y. cond (p y) 1 0) xs

module _ (n : ℕ) where
  abbrev dues : List Completion → ℕ
  dues due = count_by (is_completion_of n) due

  -- the queues of a stream changed, and what is due; where there is no such stream nothing stays in them
  queues-kept : (queues : List StreamQueues) (due after : List Completion) (stream more : ℕ) (new : StreamQueues) →
      (length queues ≤ stream → queued_of n new ≡ 0) →
      queued_of n new + dues after ≡ queued_of n (get_or queues stream no_queues) + dues due + more →
      sum_by (queued_of n) (set queues stream new) + dues after ≡ sum_by (queued_of n) queues + dues due + more
  queues-kept queues due after stream more new none same = elim (cases_lt stream (length queues)) [
    | inl within ↦ let sums = sum_by-set (queued_of n) queues stream new no_queues within in omega (arith, sums, same)
    | inr past ↦
        let still = ap (sum_by (queued_of n)) (set_past queues stream new (omega (arith, past))) in
        let empty : queued_of n (get_or queues stream no_queues) ≡ 0 =
        ap (queued_of n) (get_or_past queues stream no_queues (omega (arith, past))) in
        let nothing = none past in
        omega (arith, still, empty, nothing, same)
  ]

  -- serving a queue completes each operation or leaves it
  head-kept : {Asks : Type 0} (side : Side Asks) (head : Pending Asks) (queue : List (Pending Asks)) (used : ℕ)
      (left : Stream) (outcome : Option Outcome) →
      dues (served_queue side queue left).completed + count_by (is_of n) (served_queue side queue left).staying
      ≡ count_by (is_of n) queue →
      dues (served_head head queue used left (served_queue side queue left) outcome).completed
      + count_by (is_of n) (served_head head queue used left (served_queue side queue left) outcome).staying
      ≡ one_if (head.op == n) + count_by (is_of n) queue
  head-kept side head queue used left None rest =
      let more = count-cons (is_of n) (record head { moved = head.moved + used }) queue in omega (arith, more)
  head-kept side head queue used left (Some outcome) rest =
      let more =
      count-cons (is_completion_of n) (record { op = head.op; outcome = outcome }) (served_queue side queue left).completed in
      omega (arith, rest, more)

  queue-kept : {Asks : Type 0} (side : Side Asks) (queue : List (Pending Asks)) (stream : Stream) →
      dues (served_queue side queue stream).completed + count_by (is_of n) (served_queue side queue stream).staying
      ≡ count_by (is_of n) queue
  queue-kept side [] stream = refl
  queue-kept side (head ∷ queue) stream =
      let served = side.served head.asks head.moved stream in
      let left = side.after head.asks head.moved served.used stream in
      head-kept side head queue served.used left served.outcome (queue-kept side queue left)
      ∙ sym (count-cons (is_of n) head queue)

  stands-served : (stream : ℕ) (r : ReactorHalf) → stands n (served_at stream r) ≡ stands n r
  stands-served stream r =
      let old = queues_at r stream in
      let bytes = stream_at r.streams stream in
      let reads = served_queue reading_side old.reads bytes in
      let writes = served_queue writing_side old.writes reads.stream in
      let one = queue-kept reading_side old.reads bytes in
      let two = queue-kept writing_side old.writes reads.stream in
      let both = count-append (is_completion_of n) reads.completed writes.completed in
      let listed = count-append (is_completion_of n) r.due (reads.completed ++ writes.completed) in
      let none : length r.queues ≤ stream → queued_of n (served_stream bytes old).queues ≡ 0 = λ past.
      let empty : queued_of n old ≡ 0 =
      ap (queued_of n) (get_or_past r.queues stream no_queues (omega (arith, past))) in
      omega (arith, empty, one, two) in
      let same =
      queues-kept r.queues r.due (r.due ++ (reads.completed ++ writes.completed)) stream 0
      (served_stream bytes old).queues none (omega (arith, one, two, both, listed)) in
      omega (arith, same)

  stands-below : (k : ℕ) (r : ReactorHalf) → stands n (served_below k r) ≡ stands n r
  stands-below zero r = refl
  stands-below (suc k) r = stands-served k (served_below k r) ∙ stands-below k r

  stands-streams : (told : Bool) (r : ReactorHalf) → stands n (with_streams_served told r) ≡ stands n r
  stands-streams true r = stands-below (length r.queues) r
  stands-streams false r = refl

  -- waits that complete or are cancelled stand until they are told
  waits-kept : (test : Wait → Bool) (waits : List Wait) (others : ℕ) (due done : List Completion) →
      dues done ≡ count_by (is_wait_for n) (filter test waits) →
      count_by (is_wait_for n) (filter (λ wait. not (test wait)) waits) + others + dues (due ++ done)
      ≡ count_by (is_wait_for n) waits + others + dues due
  waits-kept test waits others due done same =
      let both = count-parts (is_wait_for n) test waits in
      let listed = count-append (is_completion_of n) due done in
      omega (arith, both, listed, same)

  pub stands-settled : (told : Bool) (r : ReactorHalf) → stands n (settled told r) ≡ stands n r
  stands-settled told r =
      let late : List Wait = filter (is_due r) r.waits in
      stands-streams told (record (with_waits_served r) { whole_turn = true; reached = 0 })
      ∙ waits-kept (is_due r) r.waits (sum_by (queued_of n) r.queues) r.due (due_waits r)
      (count-map (is_wait_for n) (is_completion_of n) waited (sorted_by (expiry_of r) late) (λ wait. refl)
      ∙ count-sorted (is_wait_for n) (expiry_of r) late)

  aborted_waits : (waits : List Wait) → dues (map (λ wait. aborted wait.op 0) waits) ≡ count_by (is_wait_for n) waits
  aborted_waits waits = count-map (is_wait_for n) (is_completion_of n) (λ wait. aborted wait.op 0) waits (λ wait. refl)

  stands-of : (timer : ℕ) (r : ReactorHalf) → stands n (waits_cancelled (is_wait_of timer) r) ≡ stands n r
  stands-of timer r =
      waits-kept (is_wait_of timer) r.waits (sum_by (queued_of n) r.queues) r.due
      (map (λ wait. aborted wait.op 0) (filter (is_wait_of timer) r.waits))
      (aborted_waits (filter (is_wait_of timer) r.waits))

  stands-for : (op : ℕ) (r : ReactorHalf) → stands n (waits_cancelled (is_wait_for op) r) ≡ stands n r
  stands-for op r =
      waits-kept (is_wait_for op) r.waits (sum_by (queued_of n) r.queues) r.due
      (map (λ wait. aborted wait.op 0) (filter (is_wait_for op) r.waits))
      (aborted_waits (filter (is_wait_for op) r.waits))

  stands-connected : (slot : Option ℕ) (op : ℕ) (r : ReactorHalf) → stands n (connected slot op r) ≡ stands n r
  stands-connected None op r = refl
  stands-connected (Some slot) op r = refl

  aborted_all : {Asks : Type 0} (queue : List (Pending Asks)) → dues (all_aborted queue) ≡ count_by (is_of n) queue
  aborted_all queue =
      count-map (is_of n) (is_completion_of n) (λ pending. aborted pending.op pending.moved) queue (λ pending. refl)

  -- an operation of a queue stays or is aborted
  left-aborted : {Asks : Type 0} (op : ℕ) (queue : List (Pending Asks)) →
      count_by (is_of n) (filter (λ pending. not (is_of op pending)) queue)
      + dues (all_aborted (filter (is_of op) queue)) ≡ count_by (is_of n) queue
  left-aborted op queue =
      let both = count-parts (is_of n) (is_of op) queue in
      let all = aborted_all (filter (is_of op) queue) in
      omega (arith, both, all)

  stands-one : (op stream : ℕ) (r : ReactorHalf) → stands n (one_of_stream_cancelled op stream r) ≡ stands n r
  stands-one op stream r =
      let old = queues_at r stream in
      let reads = left-aborted op old.reads in
      let writes = left-aborted op old.writes in
      let done : List Completion =
      all_aborted (filter (is_of op) old.reads) ++ all_aborted (filter (is_of op) old.writes) in
      let listed = count-append (is_completion_of n) r.due done in
      let both =
      count-append (is_completion_of n) (all_aborted (filter (is_of op) old.reads))
      (all_aborted (filter (is_of op) old.writes)) in
      let new : StreamQueues =
      record old {
        reads = filter (λ pending. not (is_of op pending)) old.reads;
        writes = filter (λ pending. not (is_of op pending)) old.writes;
      } in
      let none : length r.queues ≤ stream → queued_of n new ≡ 0 = λ past.
      let empty : queued_of n old ≡ 0 =
      ap (queued_of n) (get_or_past r.queues stream no_queues (omega (arith, past))) in
      omega (arith, empty, reads, writes) in
      let same =
      queues-kept r.queues r.due (r.due ++ done) stream 0 new none (omega (arith, reads, writes, listed, both)) in
      omega (arith, same)

  -- all operations of a stream
  count-with_writes : (accepted : ℕ) (read : Completion) (later : List (Pending Writing) → List Completion) (more : ℕ) →
      ((rest : List (Pending Writing)) → dues (later rest) ≡ more + count_by (is_of n) rest) →
      (writes : List (Pending Writing)) →
      dues (with_writes accepted read later writes)
      ≡ one_if (is_completion_of n read) + more + count_by (is_of n) writes
  count-with_writes accepted read later more h [] =
      let first = count-cons (is_completion_of n) read (later []) in
      let rest = h [] in
      omega (arith, first, rest)
  count-with_writes accepted read later more h (write ∷ writes) =
      by_test (nat_lt accepted write.accepted) (count-with_writes accepted read later more h writes)
    where
      by_test : (b : Bool) →
          dues (with_writes accepted read later writes)
          ≡ one_if (is_completion_of n read) + more + count_by (is_of n) writes →
          dues (cond b (read ∷ later (write ∷ writes)) (aborted write.op write.moved ∷ with_writes accepted read later writes))
          ≡ one_if (is_completion_of n read) + more + count_by (is_of n) (write ∷ writes)
      by_test true rest_is =
          let first = count-cons (is_completion_of n) read (later (write ∷ writes)) in
          let rest = h (write ∷ writes) in omega (arith, first, rest)
      by_test false rest =
          let first =
          count-cons (is_completion_of n) (aborted write.op write.moved) (with_writes accepted read later writes) in
          let one = count-cons (is_of n) write writes in
          omega (arith, first, rest, one)

  count-all : (reads : List (Pending Reading)) (writes : List (Pending Writing)) →
      dues (all_of_stream reads writes) ≡ count_by (is_of n) reads + count_by (is_of n) writes
  count-all [] writes = let all = aborted_all writes in omega (arith, all)
  count-all (read ∷ reads) writes =
      let rest =
      count-with_writes read.accepted (aborted read.op read.moved) (all_of_stream reads) (count_by (is_of n) reads)
      (count-all reads) writes in
      let one = count-cons (is_of n) read reads in
      omega (arith, rest, one)

  stands-if : (b : Bool) (one two r : ReactorHalf) → stands n one ≡ stands n r → stands n two ≡ stands n r →
      stands n (cond b one two) ≡ stands n r
  stands-if true one two r first second = first
  stands-if false one two r first second = second

  stands-shut : (stream : ℕ) (r : ReactorHalf) → stands n (shut_at stream r) ≡ stands n r
  stands-shut stream r =
      let old = queues_at r stream in
      let count = count-all old.reads old.writes in
      let listed = count-append (is_completion_of n) r.due (all_of_stream old.reads old.writes) in
      let same =
      queues-kept r.queues r.due (r.due ++ all_of_stream old.reads old.writes) stream 0
      (record { closed = true; reads = []; writes = [] }) (λ past. refl) (omega (arith, count, listed)) in
      omega (arith, same)

  stands-closed : (stream : ℕ) (r : ReactorHalf) → stands n (closed_at stream r) ≡ stands n r
  stands-closed stream r = stands-if (queues_at r stream).closed r (shut_at stream r) r refl (stands-shut stream r)

  stands-operation : (given : Act) (op : ℕ) (r : ReactorHalf) → stands n (operation_cancelled given op r) ≡ stands n r
  stands-operation (act.Wait timer strand slot filter) op r = stands-for op r
  stands-operation (act.ReadSome stream size strand slot filter) op r = stands-one op stream r
  stands-operation (act.ReadAll stream size strand slot filter) op r = stands-one op stream r
  stands-operation (act.Until stream delimiter max strand slot filter) op r = stands-one op stream r
  stands-operation (act.WriteSome stream bytes strand slot filter) op r = stands-one op stream r
  stands-operation (act.WriteAll stream bytes strand slot filter) op r = stands-one op stream r
  stands-operation given op r = refl

  stands-emitted_to : (given : Option Act) (types op : ℕ) (r : ReactorHalf) →
      stands n (emitted_to given types op r) ≡ stands n r
  stands-emitted_to None types op r = refl
  stands-emitted_to (Some given) types op r =
      stands-if (is_reached given types) (operation_cancelled given op r) r r (stands-operation given op r) refl

  stands-emitted : (script : ScriptModel) (op : Option ℕ) (types : ℕ) (r : ReactorHalf) →
      stands n (emitted script op types r) ≡ stands n r
  stands-emitted script None types r = refl
  stands-emitted script (Some op) types r = stands-emitted_to (act_of script op) types op r

  stands-first : (timer : ℕ) (r : ReactorHalf) →
      stands n (one_wait_cancelled (find (is_wait_of timer) r.waits) r) ≡ stands n r
  stands-first timer r =
      elim (find (is_wait_of timer) r.waits) as (λ wait. stands n (one_wait_cancelled wait r) ≡ stands n r) [
        | None ↦ refl
        | Some wait ↦ stands-for wait.op r
      ]

  -- an operation on a stream is queued, or completes at once where its stream is closed
  accepted-by : (closed : Bool) (r : ReactorHalf) (stream : ℕ) (done : Completion) (new : StreamQueues) (more : ℕ) →
      stream < length r.queues → one_if (is_completion_of n done) ≡ more →
      queued_of n new ≡ queued_of n (queues_at r stream) + more →
      stands n (cond closed (record r { due = r.due ++ done ∷ [] }) (record r { queues = set r.queues stream new }))
      ≡ stands n r + more
  accepted-by true r stream done new more within one added =
      let listed = count-append (is_completion_of n) r.due (done ∷ []) in
      let alone = count-cons (is_completion_of n) done [] in
      omega (arith, listed, alone, one)
  accepted-by false r stream done new more within one added =
      let same =
      queues-kept r.queues r.due r.due stream more new (λ past. absurd (omega (arith, past, within))) (omega (arith, added)) in
      omega (arith, same)

  stands-read : (op stream : ℕ) (reading : Reading) (r : ReactorHalf) → stream < length r.queues →
      stands n (read_accepted op stream reading r) ≡ stands n r + one_if (op == n)
  stands-read op stream reading r within =
      let old = queues_at r stream in
      let more = count-append (is_of n) old.reads (new_pending op r.accepted reading ∷ []) in
      let alone = count-cons (is_of n) (new_pending op r.accepted reading) [] in
      accepted-by old.closed r stream (bad op)
      (record old { reads = old.reads ++ new_pending op r.accepted reading ∷ [] }) (one_if (op == n)) within refl
      (omega (arith, more, alone))

  stands-write : (op stream : ℕ) (writing : Writing) (r : ReactorHalf) → stream < length r.queues →
      stands n (write_accepted op stream writing r) ≡ stands n r + one_if (op == n)
  stands-write op stream writing r within =
      let old = queues_at r stream in
      let more = count-append (is_of n) old.writes (new_pending op r.accepted writing ∷ []) in
      let alone = count-cons (is_of n) (new_pending op r.accepted writing) [] in
      accepted-by old.closed r stream (bad op)
      (record old { writes = old.writes ++ new_pending op r.accepted writing ∷ [] }) (one_if (op == n)) within refl
      (omega (arith, more, alone))

  stands-wait : (op timer : ℕ) (r : ReactorHalf) → stands n (wait_accepted op timer r) ≡ stands n r + one_if (op == n)
  stands-wait op timer r =
      let more = count-append (is_wait_for n) r.waits (record { op = op; timer = timer } ∷ []) in
      let alone = count-cons (is_wait_for n) (record { op = op; timer = timer }) [] in
      omega (arith, more, alone)

  -- performing an act adds an asynchronous operation, and nothing else
  stands-act : (script : ScriptModel) (a : ℕ) (given : Act) (r : ReactorHalf) → FitsAct (header_of script) given →
      length r.queues ≡ script.world.streams →
      stands n (performed_act script a given r) ≡ stands n r + cond (is_awaited given) (one_if (a == n)) 0
  stands-act script a (act.Wait timer strand slot filter) r fits size =
      stands-connected slot a (wait_accepted a timer r) ∙ stands-wait a timer r
  stands-act script a (act.ReadSome stream bytes strand slot filter) r fits size =
      stands-connected slot a (read_accepted a stream (Some_bytes bytes) r)
      ∙ stands-read a stream (Some_bytes bytes) r (omega (arith, fits.0, size))
  stands-act script a (act.ReadAll stream bytes strand slot filter) r fits size =
      stands-connected slot a (read_accepted a stream (All_bytes bytes) r)
      ∙ stands-read a stream (All_bytes bytes) r (omega (arith, fits.0, size))
  stands-act script a (act.Until stream delimiter max strand slot filter) r fits size =
      stands-connected slot a (read_accepted a stream (Until delimiter max) r)
      ∙ stands-read a stream (Until delimiter max) r (omega (arith, fits.0, size))
  stands-act script a (act.WriteSome stream bytes strand slot filter) r fits size =
      stands-connected slot a (write_accepted a stream (Some_of bytes) r)
      ∙ stands-write a stream (Some_of bytes) r (omega (arith, fits.0, size))
  stands-act script a (act.WriteAll stream bytes strand slot filter) r fits size =
      stands-connected slot a (write_accepted a stream (All_of bytes) r)
      ∙ stands-write a stream (All_of bytes) r (omega (arith, fits.0, size))
  stands-act script a (act.Expires timer after) r fits size =
      stands-of timer (record r { expiries = set r.expiries timer (r.now + after) }) ∙ omega arith
  stands-act script a (act.ExpiresAt timer at) r fits size =
      stands-of timer (record r { expiries = set r.expiries timer at }) ∙ omega arith
  stands-act script a (act.Cancel timer) r fits size = stands-of timer r ∙ omega arith
  stands-act script a (act.CancelOne timer) r fits size = stands-first timer r ∙ omega arith
  stands-act script a (act.Emit slot types) r fits size =
      stands-emitted script (get_or r.slots slot None) types r ∙ omega arith
  stands-act script a (act.Close stream) r fits size = stands-closed stream r ∙ omega arith
  stands-act script a (act.Release guard) r fits size = omega arith
  stands-act script a (act.Post strand) r fits size = omega arith
  stands-act script a (act.Defer strand) r fits size = omega arith
  stands-act script a (act.Dispatch strand) r fits size = omega arith
  stands-act script a act.Stop r fits size = omega arith

  pub stands-take : (script : ScriptModel) (told : Bool) (r : ReactorHalf) (a : ℕ) (given : Act) →
      act_of script a ≡ Some given → FitsAct (header_of script) given → length r.queues ≡ script.world.streams →
      stands n (reactor_after_take script told r a) ≡ stands n r + cond (is_awaited given) (one_if (a == n)) 0
  stands-take script told r a given is fits size =
      stands-settled told (performed script a r)
      ∙ (ap (λ (act : Option Act). stands n (performed_by script a act r)) is ∙ stands-act script a given r fits size)

  pub stands-tick : (script : ScriptModel) (told : Bool) (r : ReactorHalf) (now : ℕ) →
      stands n (reactor_after_tick script told r now) ≡ stands n r
  stands-tick script told r now = stands-settled told (at_time script told now r)

  pub stands-last : (told : Bool) (r : ReactorHalf) → stands n (reactor_after_last told r) ≡ stands n r
  stands-last told r = stands-settled told (at_last told r)

  -- a queue loses its head
  head-gone : {Asks : Type 0} (queue : List (Pending Asks)) (o : ℕ) → head_of queue ≡ Some o →
      count_by (is_of n) (drop 1 queue) + one_if (o == n) ≡ count_by (is_of n) queue
  head-gone [] o is = absurd (cc)
  head-gone (head ∷ queue) o is =
      let same : head.op ≡ o = cc in
      let one = count-cons (is_of n) head queue in
      let here = ap (λ op. one_if (op == n)) same in
      omega (arith, one, here)

  -- the queues of a stream lost this much
  fewer : (r : ReactorHalf) (stream less : ℕ) (new : StreamQueues) → stream < length r.queues →
      queued_of n new + less ≡ queued_of n (queues_at r stream) →
      sum_by (queued_of n) (set r.queues stream new) + less ≡ sum_by (queued_of n) r.queues
  fewer r stream less new within lost =
      let sums = sum_by-set (queued_of n) r.queues stream new no_queues within in omega (arith, sums, lost)

  there-read : (r : ReactorHalf) (stream o : ℕ) → head_of (queues_at r stream).reads ≡ Some o → stream < length r.queues
  there-read r stream o is = elim (cases_lt stream (length r.queues)) [
    | inl within ↦ within
    | inr past ↦
        absurd (let none : None ≡ Some o =
        sym (ap (λ (queues : StreamQueues). head_of queues.reads) (get_or_past r.queues stream no_queues past))
        ∙ is in
        cc)
  ]

  there-write : (r : ReactorHalf) (stream o : ℕ) → head_of (queues_at r stream).writes ≡ Some o →
      stream < length r.queues
  there-write r stream o is = elim (cases_lt stream (length r.queues)) [
    | inl within ↦ within
    | inr past ↦
        absurd (let none : None ≡ Some o =
        sym (ap (λ (queues : StreamQueues). head_of queues.writes) (get_or_past r.queues stream no_queues past))
        ∙ is in
        cc)
  ]

  stands-read_gone : (r : ReactorHalf) (stream o : ℕ) → head_of (queues_at r stream).reads ≡ Some o →
      stands n (read_gone stream r) + one_if (o == n) ≡ stands n r
  stands-read_gone r stream o is =
      let old = queues_at r stream in
      let less = head-gone old.reads o is in
      let same =
      fewer r stream (one_if (o == n)) (record old { reads = drop 1 old.reads }) (there-read r stream o is)
      (omega (arith, less)) in
      omega (arith, same)

  stands-write_gone : (r : ReactorHalf) (stream o : ℕ) → head_of (queues_at r stream).writes ≡ Some o →
      stands n (write_gone stream r) + one_if (o == n) ≡ stands n r
  stands-write_gone r stream o is =
      let old = queues_at r stream in
      let less = head-gone old.writes o is in
      let same =
      fewer r stream (one_if (o == n)) (record old { writes = drop 1 old.writes }) (there-write r stream o is)
      (omega (arith, less)) in
      omega (arith, same)

  stands-gone : (r : ReactorHalf) (o : ℕ) (given : Option Act) (code : Code) (size : ℕ) →
      MayGiveUntold r o given code size → stands n (gone given r) + one_if (o == n) ≡ stands n r
  stands-gone r o (Some (act.ReadSome stream b c d e)) code size may = stands-read_gone r stream o may.head
  stands-gone r o (Some (act.ReadAll stream b c d e)) code size may = stands-read_gone r stream o may.head
  stands-gone r o (Some (act.Until stream b c d e f)) code size may = stands-read_gone r stream o may.head
  stands-gone r o (Some (act.WriteSome stream b c d e)) code size may = stands-write_gone r stream o may.head
  stands-gone r o (Some (act.WriteAll stream b c d e)) code size may = stands-write_gone r stream o may.head
  stands-gone r o given code size may = absurd may

  stands-told_off : (script : ScriptModel) (told : Bool) (r : ReactorHalf) (o : ℕ) (code : Code) (size : ℕ)
      (due : List Completion) → r.due ≡ due → MayTell script told r o code size →
      stands n (told_off script o r due) + one_if (o == n) ≡ stands n r
  stands-told_off script told r o code size [] is (inl next) =
      absurd (let head = ap (λ due. slice_get due 0) (sym is) ∙ next.due in cc)
  stands-told_off script told r o code size [] is (inr untold) =
      stands-gone r o (act_of script o) code size untold.given
  stands-told_off script told r o code size (head ∷ due) is (inl next) =
      let first : Some head ≡ Some next.head = ap (λ due. slice_get due 0) (sym is) ∙ next.due in
      let same : head ≡ next.head = cc in
      let here : one_if (head.op == n) ≡ one_if (o == n) =
      ap (λ (head : Completion). one_if (head.op == n)) same ∙ ap (λ op. one_if (op == n)) next.is_op in
      let count = ap dues is in
      let one = count-cons (is_completion_of n) head due in
      omega (arith, count, one, here)
  stands-told_off script told r o code size (head ∷ due) is (inr untold) =
      absurd (let none = sym is ∙ untold.fixed in cc)

  stands-disconnected : (o : ℕ) (slot : Option ℕ) (r : ReactorHalf) → stands n (disconnected o slot r) ≡ stands n r
  stands-disconnected o None r = refl
  stands-disconnected o (Some slot) r = refl

  -- a completion takes one away
  pub stands-done : (script : ScriptModel) (told : Bool) (r : ReactorHalf) (o : ℕ) (code : Code) (size : ℕ) →
      MayTell script told r o code size → stands n (reactor_after_done script r o) + one_if (o == n) ≡ stands n r
  stands-done script told r o code size may =
      ap (λ k. k + one_if (o == n))
      (stands-disconnected o (slot_in (act_of script o)) (record (told_off script o r r.due) { whole_turn = false }))
      ∙ stands-told_off script told r o code size r.due refl may
