-- How many operations are pending, turn by turn of the reactor.
use Rattle.std.proofs.Common.{◌≡◌, ℕ, zero, suc, ◌+◌, ◌<◌, ◌≤◌, Bool, true, false, not, cond, List, ◌∷◌, ◌++◌, Option, Some, None, inl, inr, drop, filter, get_or, set, length, map, refl, sym, ap, ◌∙◌, arith, []}
use Rattle.std.specs.Prelude.{find, nat_le, slice_get, sum_by}
use Rattle.std.proofs.lemmas.Bool.{cases_lt}
use Rattle.std.proofs.lemmas.List.{get_or_past, length-append, length-map, set_past}
use Rattle.std.proofs.lemmas.List.Filters.{length-filter_both}
use Rattle.std.proofs.lemmas.List.Sums.{sum_by-set}
use Rattle.asio_types.specs.declared.code.Code.{Code}
use Rattle.session_script.specs.declared.act.Act.{Act}
use Rattle.session_script.specs.declared.act.Act.TheVariants as act
use Rattle.session_script.specs.Script.{ScriptModel, act_of}
use Rattle.session_script.specs.WellFormed.{FitsAct, header_of}
use Rattle.stream_rules.specs.declared.queue.Completion.{Completion}
use Rattle.stream_rules.specs.Queue.{Pending, Side, reading_side, served_head, served_queue, writing_side}
use Rattle.stream_rules.specs.Serving.{All_bytes, All_of, Outcome, Reading, Some_bytes, Some_of, Until, Writing}
use Rattle.stream_rules.specs.Stream.{Stream}
use Rattle.stream_rules.specs.World.{stream_at}
use Rattle.reactor_turns.specs.Standing.{is_awaited}
use Rattle.history_rules.specs.Performing.{aborted, all_aborted, all_of_stream, bad, closed_at, connected, emitted, emitted_to, is_of, is_reached, is_wait_for, is_wait_of, new_pending, one_of_stream_cancelled, one_wait_cancelled, operation_cancelled, performed, performed_act, performed_by, queues_at, read_accepted, shut_at, wait_accepted, waits_cancelled, write_accepted}
use Rattle.history_rules.specs.Requests.{MayTell, disconnected, reactor_after_done, reactor_after_take, slot_in, told_off}
use Rattle.history_rules.specs.Settling.{due_waits, expiry_of, is_due, put_by, served_at, served_below, served_stream, settled, sorted_by, waited, with_streams_served, with_waits_served}
use Rattle.history_rules.specs.State.{ReactorHalf, StreamQueues, no_queues}
use Rattle.history_rules.specs.Time.{at_last, at_time, pending_count, reactor_after_last, reactor_after_tick}
use Rattle.history_rules.specs.Untold.{MayGiveUntold, gone, head_of, read_gone, write_gone}
use Rattle.history_rules.proofs.CancelledLemmas.{left-aborted, length-all_of_stream}

-- an item is put in, and none is lost
length-put : {X : Type 0} (key : X → ℕ) (x : X) (xs : List X) → length (put_by key x xs) ≡ suc (length xs)
length-put key x [] = refl
length-put key x (first ∷ rest) = by_test (nat_le (key x) (key first)) (length-put key x rest)
  where
    by_test : (b : Bool) → length (put_by key x rest) ≡ suc (length rest) →
        length (cond b (x ∷ (first ∷ rest)) (first ∷ put_by key x rest)) ≡ suc (suc (length rest))
    by_test true more = refl
    by_test false more = ap suc more

length-sorted : {X : Type 0} (key : X → ℕ) (xs : List X) → length (sorted_by key xs) ≡ length xs
length-sorted key [] = refl
length-sorted key (x ∷ xs) = length-put key x (sorted_by key xs) ∙ ap suc (length-sorted key xs)

-- the operations of a stream
abbrev size_of : StreamQueues → ℕ
size_of queues = length queues.reads + length queues.writes

-- the queues of a stream changed, and what is due; where there is no such stream nothing stays in them
queues-kept : (queues : List StreamQueues) (due after : List Completion) (stream more : ℕ) (new : StreamQueues) →
    (length queues ≤ stream → size_of new ≡ 0) →
    size_of new + length after ≡ size_of (get_or queues stream no_queues) + length due + more →
    sum_by size_of (set queues stream new) + length after ≡ sum_by size_of queues + length due + more
queues-kept queues due after stream more new none same = elim (cases_lt stream (length queues)) [
  | inl within ↦ let sums = sum_by-set size_of queues stream new no_queues within in omega (arith, sums, same)
  | inr past ↦
      let still = ap (sum_by size_of) (set_past queues stream new (omega (arith, past))) in
      let empty : size_of (get_or queues stream no_queues) ≡ 0 =
      ap size_of (get_or_past queues stream no_queues (omega (arith, past))) in
      let nothing = none past in
      omega (arith, still, empty, nothing, same)
]

-- serving a queue completes each operation or leaves it
head-kept : {Asks : Type 0} (side : Side Asks) (head : Pending Asks) (queue : List (Pending Asks)) (used : ℕ)
    (left : Stream) (outcome : Option Outcome) →
    length (served_queue side queue left).completed + length (served_queue side queue left).staying ≡ length queue →
    length (served_head head queue used left (served_queue side queue left) outcome).completed
    + length (served_head head queue used left (served_queue side queue left) outcome).staying ≡ length queue + 1
head-kept side head queue used left None rest = omega arith
head-kept side head queue used left (Some outcome) rest = omega (arith, rest)

queue-kept : {Asks : Type 0} (side : Side Asks) (queue : List (Pending Asks)) (stream : Stream) →
    length (served_queue side queue stream).completed + length (served_queue side queue stream).staying ≡ length queue
queue-kept side [] stream = refl
queue-kept side (head ∷ queue) stream =
    let served = side.served head.asks head.moved stream in
    let left = side.after head.asks head.moved served.used stream in
    head-kept side head queue served.used left served.outcome (queue-kept side queue left) ∙ omega arith

pending-served : (stream : ℕ) (r : ReactorHalf) → pending_count (served_at stream r) ≡ pending_count r
pending-served stream r =
    let old = queues_at r stream in
    let bytes = stream_at r.streams stream in
    let reads = served_queue reading_side old.reads bytes in
    let writes = served_queue writing_side old.writes reads.stream in
    let one = queue-kept reading_side old.reads bytes in
    let two = queue-kept writing_side old.writes reads.stream in
    let both = length-append reads.completed writes.completed in
    let listed = length-append r.due (reads.completed ++ writes.completed) in
    let none : length r.queues ≤ stream → length reads.staying + length writes.staying ≡ 0 = λ past.
    let empty : size_of old ≡ 0 = ap size_of (get_or_past r.queues stream no_queues (omega (arith, past))) in
    omega (arith, empty, one, two) in
    let same =
    queues-kept r.queues r.due (r.due ++ (reads.completed ++ writes.completed)) stream 0
    (served_stream bytes old).queues none (omega (arith, one, two, both, listed)) in
    omega (arith, same)

pending-below : (n : ℕ) (r : ReactorHalf) → pending_count (served_below n r) ≡ pending_count r
pending-below zero r = refl
pending-below (suc n) r = pending-served n (served_below n r) ∙ pending-below n r

pending-streams : (told : Bool) (r : ReactorHalf) → pending_count (with_streams_served told r) ≡ pending_count r
pending-streams true r = pending-below (length r.queues) r
pending-streams false r = refl

-- waits that complete or are cancelled stay pending until they are told
waits-kept : {W : Type 0} (test : W → Bool) (waits : List W) (others : ℕ) (due done : List Completion) →
    length done ≡ length (filter test waits) →
    length (filter (λ wait. not (test wait)) waits) + others + length (due ++ done) ≡ length waits + others + length due
waits-kept test waits others due done same =
    let both = length-filter_both test (λ wait. not (test wait)) (λ x. refl) waits in
    let listed = length-append due done in
    omega (arith, both, listed, same)

pub pending-settled : (told : Bool) (r : ReactorHalf) → pending_count (settled told r) ≡ pending_count r
pending-settled told r =
    pending-streams told (record (with_waits_served r) { whole_turn = true; reached = 0 })
    ∙ waits-kept (is_due r) r.waits (sum_by size_of r.queues) r.due (due_waits r) (length-map
    (sorted_by (expiry_of r) (filter (is_due r) r.waits)) waited
    ∙ length-sorted (expiry_of r) (filter (is_due r) r.waits))

pending-of : (timer : ℕ) (r : ReactorHalf) → pending_count (waits_cancelled (is_wait_of timer) r) ≡ pending_count r
pending-of timer r =
    waits-kept (is_wait_of timer) r.waits (sum_by size_of r.queues) r.due
    (map (λ wait. aborted wait.op 0) (filter (is_wait_of timer) r.waits))
    (length-map (filter (is_wait_of timer) r.waits) (λ wait. aborted wait.op 0))

pending-for : (op : ℕ) (r : ReactorHalf) → pending_count (waits_cancelled (is_wait_for op) r) ≡ pending_count r
pending-for op r =
    waits-kept (is_wait_for op) r.waits (sum_by size_of r.queues) r.due
    (map (λ wait. aborted wait.op 0) (filter (is_wait_for op) r.waits))
    (length-map (filter (is_wait_for op) r.waits) (λ wait. aborted wait.op 0))

pending-connected : (slot : Option ℕ) (op : ℕ) (r : ReactorHalf) → pending_count (connected slot op r) ≡ pending_count r
pending-connected None op r = refl
pending-connected (Some slot) op r = refl

pending-one : (op stream : ℕ) (r : ReactorHalf) → pending_count (one_of_stream_cancelled op stream r) ≡ pending_count r
pending-one op stream r =
    let old = queues_at r stream in
    let reads = left-aborted op old.reads in
    let writes = left-aborted op old.writes in
    let done : List Completion =
    all_aborted (filter (is_of op) old.reads) ++ all_aborted (filter (is_of op) old.writes) in
    let listed = length-append r.due done in
    let both = length-append (all_aborted (filter (is_of op) old.reads)) (all_aborted (filter (is_of op) old.writes)) in
    let new : StreamQueues = record old {
      reads = filter (λ pending. not (is_of op pending)) old.reads;
      writes = filter (λ pending. not (is_of op pending)) old.writes;
    } in
    let none : length r.queues ≤ stream → size_of new ≡ 0 = λ past.
    let empty : size_of old ≡ 0 = ap size_of (get_or_past r.queues stream no_queues (omega (arith, past))) in
    omega (arith, empty, reads, writes) in
    let same =
    queues-kept r.queues r.due (r.due ++ done) stream 0 new none (omega (arith, reads, writes, listed, both)) in
    omega (arith, same)

pending-shut : (stream : ℕ) (r : ReactorHalf) → pending_count (shut_at stream r) ≡ pending_count r
pending-shut stream r =
    let old = queues_at r stream in
    let count = length-all_of_stream old.reads old.writes in
    let listed = length-append r.due (all_of_stream old.reads old.writes) in
    let same =
    queues-kept r.queues r.due (r.due ++ all_of_stream old.reads old.writes) stream 0
    (record { closed = true; reads = []; writes = [] }) (λ past. refl) (omega (arith, count, listed)) in
    omega (arith, same)

pending-if : (b : Bool) (one two r : ReactorHalf) → pending_count one ≡ pending_count r →
    pending_count two ≡ pending_count r → pending_count (cond b one two) ≡ pending_count r
pending-if true one two r first second = first
pending-if false one two r first second = second

pending-closed : (stream : ℕ) (r : ReactorHalf) → pending_count (closed_at stream r) ≡ pending_count r
pending-closed stream r = pending-if (queues_at r stream).closed r (shut_at stream r) r refl (pending-shut stream r)

pending-operation : (given : Act) (op : ℕ) (r : ReactorHalf) →
    pending_count (operation_cancelled given op r) ≡ pending_count r
pending-operation (act.Wait timer strand slot filter) op r = pending-for op r
pending-operation (act.ReadSome stream size strand slot filter) op r = pending-one op stream r
pending-operation (act.ReadAll stream size strand slot filter) op r = pending-one op stream r
pending-operation (act.Until stream delimiter max strand slot filter) op r = pending-one op stream r
pending-operation (act.WriteSome stream bytes strand slot filter) op r = pending-one op stream r
pending-operation (act.WriteAll stream bytes strand slot filter) op r = pending-one op stream r
pending-operation given op r = refl

pending-emitted_to : (given : Option Act) (types op : ℕ) (r : ReactorHalf) →
    pending_count (emitted_to given types op r) ≡ pending_count r
pending-emitted_to None types op r = refl
pending-emitted_to (Some given) types op r =
    pending-if (is_reached given types) (operation_cancelled given op r) r r (pending-operation given op r) refl

pending-emitted : (script : ScriptModel) (op : Option ℕ) (types : ℕ) (r : ReactorHalf) →
    pending_count (emitted script op types r) ≡ pending_count r
pending-emitted script None types r = refl
pending-emitted script (Some op) types r = pending-emitted_to (act_of script op) types op r

pending-first : (timer : ℕ) (r : ReactorHalf) →
    pending_count (one_wait_cancelled (find (is_wait_of timer) r.waits) r) ≡ pending_count r
pending-first timer r =
    elim (find (is_wait_of timer) r.waits) as (λ wait. pending_count (one_wait_cancelled wait r) ≡ pending_count r) [
      | None ↦ refl
      | Some wait ↦ pending-for wait.op r
    ]

-- an operation on a stream is queued, or completes at once where its stream is closed
accepted-by : (closed : Bool) (r : ReactorHalf) (stream : ℕ) (done : Completion) (new : StreamQueues) →
    stream < length r.queues → size_of new ≡ size_of (queues_at r stream) + 1 →
    pending_count (cond closed (record r { due = r.due ++ done ∷ [] }) (record r { queues = set r.queues stream new }))
    ≡ pending_count r + 1
accepted-by true r stream done new within more = let listed = length-append r.due (done ∷ []) in omega (arith, listed)
accepted-by false r stream done new within more =
    let same =
    queues-kept r.queues r.due r.due stream 1 new (λ past. absurd (omega (arith, past, within))) (omega (arith, more)) in
    omega (arith, same)

pending-read : (op stream : ℕ) (reading : Reading) (r : ReactorHalf) → stream < length r.queues →
    pending_count (read_accepted op stream reading r) ≡ pending_count r + 1
pending-read op stream reading r within =
    let old = queues_at r stream in
    let more = length-append old.reads (new_pending op r.accepted reading ∷ []) in
    accepted-by old.closed r stream (bad op)
    (record old { reads = old.reads ++ new_pending op r.accepted reading ∷ [] }) within (omega (arith, more))

pending-write : (op stream : ℕ) (writing : Writing) (r : ReactorHalf) → stream < length r.queues →
    pending_count (write_accepted op stream writing r) ≡ pending_count r + 1
pending-write op stream writing r within =
    let old = queues_at r stream in
    let more = length-append old.writes (new_pending op r.accepted writing ∷ []) in
    accepted-by old.closed r stream (bad op)
    (record old { writes = old.writes ++ new_pending op r.accepted writing ∷ [] }) within (omega (arith, more))

pending-wait : (op timer : ℕ) (r : ReactorHalf) → pending_count (wait_accepted op timer r) ≡ pending_count r + 1
pending-wait op timer r =
    let more = length-append r.waits (record { op = op; timer = timer } ∷ []) in omega (arith, more)

-- performing an act adds an asynchronous operation to what is pending, and nothing else
pub pending-act : (script : ScriptModel) (a : ℕ) (given : Act) (r : ReactorHalf) → FitsAct (header_of script) given →
    length r.queues ≡ script.world.streams →
    pending_count (performed_act script a given r) ≡ pending_count r + cond (is_awaited given) 1 0
pending-act script a (act.Wait timer strand slot filter) r fits size =
    pending-connected slot a (wait_accepted a timer r) ∙ pending-wait a timer r
pending-act script a (act.ReadSome stream bytes strand slot filter) r fits size =
    pending-connected slot a (read_accepted a stream (Some_bytes bytes) r)
    ∙ pending-read a stream (Some_bytes bytes) r (omega (arith, fits.0, size))
pending-act script a (act.ReadAll stream bytes strand slot filter) r fits size =
    pending-connected slot a (read_accepted a stream (All_bytes bytes) r)
    ∙ pending-read a stream (All_bytes bytes) r (omega (arith, fits.0, size))
pending-act script a (act.Until stream delimiter max strand slot filter) r fits size =
    pending-connected slot a (read_accepted a stream (Until delimiter max) r)
    ∙ pending-read a stream (Until delimiter max) r (omega (arith, fits.0, size))
pending-act script a (act.WriteSome stream bytes strand slot filter) r fits size =
    pending-connected slot a (write_accepted a stream (Some_of bytes) r)
    ∙ pending-write a stream (Some_of bytes) r (omega (arith, fits.0, size))
pending-act script a (act.WriteAll stream bytes strand slot filter) r fits size =
    pending-connected slot a (write_accepted a stream (All_of bytes) r)
    ∙ pending-write a stream (All_of bytes) r (omega (arith, fits.0, size))
pending-act script a (act.Expires timer after) r fits size =
    pending-of timer (record r { expiries = set r.expiries timer (r.now + after) }) ∙ omega arith
pending-act script a (act.ExpiresAt timer at) r fits size =
    pending-of timer (record r { expiries = set r.expiries timer at }) ∙ omega arith
pending-act script a (act.Cancel timer) r fits size = pending-of timer r ∙ omega arith
pending-act script a (act.CancelOne timer) r fits size = pending-first timer r ∙ omega arith
pending-act script a (act.Emit slot types) r fits size =
    pending-emitted script (get_or r.slots slot None) types r ∙ omega arith
pending-act script a (act.Close stream) r fits size = pending-closed stream r ∙ omega arith
pending-act script a (act.Release guard) r fits size = omega arith
pending-act script a (act.Post strand) r fits size = omega arith
pending-act script a (act.Defer strand) r fits size = omega arith
pending-act script a (act.Dispatch strand) r fits size = omega arith
pending-act script a act.Stop r fits size = omega arith

pub pending-take : (script : ScriptModel) (told : Bool) (r : ReactorHalf) (a : ℕ) (given : Act) →
    act_of script a ≡ Some given → FitsAct (header_of script) given → length r.queues ≡ script.world.streams →
    pending_count (reactor_after_take script told r a) ≡ pending_count r + cond (is_awaited given) 1 0
pending-take script told r a given is fits size =
    pending-settled told (performed script a r)
    ∙ (ap (λ (act : Option Act). pending_count (performed_by script a act r)) is ∙ pending-act script a given r fits size)

pub pending-tick : (script : ScriptModel) (told : Bool) (r : ReactorHalf) (now : ℕ) →
    pending_count (reactor_after_tick script told r now) ≡ pending_count r
pending-tick script told r now = pending-settled told (at_time script told now r)

pub pending-last : (told : Bool) (r : ReactorHalf) → pending_count (reactor_after_last told r) ≡ pending_count r
pending-last told r = pending-settled told (at_last told r)

-- a queue loses its head
head-gone : {Asks : Type 0} (queue : List (Pending Asks)) (o : ℕ) → head_of queue ≡ Some o →
    length (drop 1 queue) + 1 ≡ length queue
head-gone [] o is = absurd (cc)
head-gone (head ∷ queue) o is = omega arith

fewer : (r : ReactorHalf) (stream : ℕ) (new : StreamQueues) → stream < length r.queues →
    size_of new + 1 ≡ size_of (queues_at r stream) →
    sum_by size_of (set r.queues stream new) + 1 ≡ sum_by size_of r.queues
fewer r stream new within less =
    let sums = sum_by-set size_of r.queues stream new no_queues within in omega (arith, sums, less)

-- a stream with an operation is there
there-by : (r : ReactorHalf) (stream : ℕ) → 1 ≤ size_of (queues_at r stream) → stream < length r.queues
there-by r stream some = elim (cases_lt stream (length r.queues)) [
  | inl within ↦ within
  | inr past ↦
      let empty : size_of (queues_at r stream) ≡ 0 = ap size_of (get_or_past r.queues stream no_queues past) in
      absurd (omega (arith, empty, some))
]

pending-read_gone : (r : ReactorHalf) (stream o : ℕ) → head_of (queues_at r stream).reads ≡ Some o →
    pending_count (read_gone stream r) + 1 ≡ pending_count r
pending-read_gone r stream o is =
    let old = queues_at r stream in
    let less = head-gone old.reads o is in
    let same =
    fewer r stream (record old { reads = drop 1 old.reads }) (there-by r stream (omega (arith, less))) (omega (arith, less)) in
    omega (arith, same)

pending-write_gone : (r : ReactorHalf) (stream o : ℕ) → head_of (queues_at r stream).writes ≡ Some o →
    pending_count (write_gone stream r) + 1 ≡ pending_count r
pending-write_gone r stream o is =
    let old = queues_at r stream in
    let less = head-gone old.writes o is in
    let same =
    fewer r stream (record old { writes = drop 1 old.writes }) (there-by r stream (omega (arith, less))) (omega (arith, less)) in
    omega (arith, same)

pending-gone : (r : ReactorHalf) (o : ℕ) (given : Option Act) (code : Code) (size : ℕ) →
    MayGiveUntold r o given code size → pending_count (gone given r) + 1 ≡ pending_count r
pending-gone r o (Some (act.ReadSome stream b c d e)) code size may = pending-read_gone r stream o may.head
pending-gone r o (Some (act.ReadAll stream b c d e)) code size may = pending-read_gone r stream o may.head
pending-gone r o (Some (act.Until stream b c d e f)) code size may = pending-read_gone r stream o may.head
pending-gone r o (Some (act.WriteSome stream b c d e)) code size may = pending-write_gone r stream o may.head
pending-gone r o (Some (act.WriteAll stream b c d e)) code size may = pending-write_gone r stream o may.head
pending-gone r o given code size may = absurd may

pending-told_off : (script : ScriptModel) (told : Bool) (r : ReactorHalf) (o : ℕ) (code : Code) (size : ℕ)
    (due : List Completion) → r.due ≡ due → MayTell script told r o code size →
    pending_count (told_off script o r due) + 1 ≡ pending_count r
pending-told_off script told r o code size [] is (inl next) =
    absurd (let head = ap (λ due. slice_get due 0) (sym is) ∙ next.due in cc)
pending-told_off script told r o code size [] is (inr untold) =
    pending-gone r o (act_of script o) code size untold.given
pending-told_off script told r o code size (head ∷ due) is (inl next) = let count = ap length is in omega (arith, count)
pending-told_off script told r o code size (head ∷ due) is (inr untold) =
    absurd (let none = sym is ∙ untold.fixed in cc)

pending-disconnected : (o : ℕ) (slot : Option ℕ) (r : ReactorHalf) →
    pending_count (disconnected o slot r) ≡ pending_count r
pending-disconnected o None r = refl
pending-disconnected o (Some slot) r = refl

-- a completion takes one of them
pub pending-done : (script : ScriptModel) (told : Bool) (r : ReactorHalf) (o : ℕ) (code : Code) (size : ℕ) →
    MayTell script told r o code size → pending_count (reactor_after_done script r o) + 1 ≡ pending_count r
pending-done script told r o code size may =
    ap (λ n. n + 1)
    (pending-disconnected o (slot_in (act_of script o)) (record (told_off script o r r.due) { whole_turn = false }))
    ∙ pending-told_off script told r o code size r.due refl may
