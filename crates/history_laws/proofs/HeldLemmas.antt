-- What the reactor holds, and what becomes due as it performs an act and settles.
use Rattle.std.proofs.Common.{◌≡◌, ◌≢◌, ℕ, ◌+◌, ◌-◌, min, take, ◌==◌, nat_le, nat_lt, zero, suc, Bool, true, false, not, cond, List, [], ◌∷◌, ◌++◌, Option, Some, None, map, filter, find, length, set, inl, inr, refl, sym, subst, ◌∙◌}
use Rattle.std.specs.List.{All, slice_index_or}
use Rattle.std.specs.Option.{option_map}
use Rattle.std.proofs.lemmas.Bool.{cases_eq, cond_both, cases_lt, eqb-true}
use Rattle.std.proofs.lemmas.List.{get_or-set_same, get_or-set_other, set_past}
use Rattle.std.proofs.lemmas.List.Elements.{All-append, All-cons, All-filter, All-head, All-map, All-nil, All-push, All-tail, All-weaker}
use Rattle.asio_types.specs.declared.code.Code.{Code}
use Rattle.asio_types.specs.declared.code.Code.TheVariants as code
use Rattle.asio_types.specs.declared.mark.ReadMark.{ReadMark}
use Rattle.asio_types.specs.declared.mark.ReadMark.TheVariants as read_mark
use Rattle.asio_types.specs.declared.mark.WriteMark.{WriteMark}
use Rattle.asio_types.specs.declared.mark.WriteMark.TheVariants as write_mark
use Rattle.session_script.specs.declared.act.Act.{Act}
use Rattle.session_script.specs.Script.{ScriptModel, act_of}
use Rattle.stream_rules.specs.declared.queue.Completion.{Completion}
use Rattle.stream_rules.specs.Delimiter.{first_end}
use Rattle.stream_rules.specs.Queue.{Pending, QueueServed, Side, reading_side, served_head, served_queue, writing_side}
use Rattle.stream_rules.specs.Serving.{Outcome, Reading, Writing, Some_bytes, All_bytes, Until, Some_of, All_of, all_of, ended_by, read_code, served_read, served_write, some_of, until_found, write_code}
use Rattle.stream_rules.specs.Stream.{Stream}
use Rattle.stream_rules.specs.declared.serving.Served.{Served}
use Rattle.stream_rules.specs.World.{stream_at}
use Rattle.history_rules.specs.Kinds.{stream_of}
use Rattle.history_rules.specs.Performing.{aborted, all_aborted, all_of_stream, bad, connected, is_of, new_pending, one_of_stream_cancelled, queues_at, read_accepted, waits_cancelled, with_due, with_queues, with_writes, write_accepted}
use Rattle.history_rules.specs.Settling.{due_waits, expiry_of, is_due, put_by, served_at, served_below, served_stream, settled, sorted_by, waited, with_waits_served}
use Rattle.history_rules.specs.State.{ReactorHalf, StreamQueues, no_queues}
use Rattle.history_rules.specs.declared.wait.Wait.{Wait}
use Rattle.history_rules.proofs.PerformingLemmas.{All-passing}
use Rattle.history_laws.specs.Cancelled.{may_cancel}
use Rattle.history_laws.specs.Clock.{IsWaitOf}

-- the act is an operation on this stream
pub record IsOn (script : ScriptModel) (stream n : ℕ) : Type 0 where
  pub act : Act
  pub is : act_of script n ≡ Some act
  pub on : stream_of act ≡ Some stream

-- no completion of a stream is a cancellation
abbrev pub IsServed : Option Outcome → Type 0
IsServed None = Unit {0}
IsServed (Some outcome) = outcome.0 ≢ code.Aborted

ended_served : (mark : Option Code) (size : ℕ) → ((ended : Code) → mark ≡ Some ended → ended ≢ code.Aborted) →
    IsServed (ended_by mark size)
ended_served None size never = tt
ended_served (Some ended) size never = never ended refl

abbrev IsUncancelled : Served → Type 0
IsUncancelled served = IsServed served.outcome

ok_served : (size : ℕ) → IsServed (Some (code.Ok, size))
ok_served size = λ same. absurd (cc)

module _ (mark : Option Code) (never : (ended : Code) → mark ≡ Some ended → ended ≢ code.Aborted) where
  some_served : (size there : ℕ) → IsUncancelled (some_of size there mark)
  some_served size there =
      cond_both (there == 0) (record { used = 0; outcome = ended_by mark 0 })
      (record { used = min size there; outcome = Some (code.Ok, min size there) }) IsUncancelled
      (λ is. ended_served mark 0 never) (λ is. ok_served (min size there))

  all_served : (size before there : ℕ) → IsUncancelled (all_of size before there mark)
  all_served size before there =
      cond_both (nat_le size (before + there)) (record { used = size - before; outcome = Some (code.Ok, size) })
      (record { used = there; outcome = ended_by mark (before + there) }) IsUncancelled (λ is. ok_served size)
      (λ is. ended_served mark (before + there) never)

  until_served : (found : Option ℕ) (max there : ℕ) → IsUncancelled (until_found found max there mark)
  until_served (Some count) max there = ok_served count
  until_served None max there =
      cond_both (nat_le max there) (Some (code.NotFound, 0)) (ended_by mark 0) IsServed (λ is same. absurd (cc))
      (λ is. ended_served mark 0 never)

read_never : (mark : Option ReadMark) (ended : Code) → option_map read_code mark ≡ Some ended → ended ≢ code.Aborted
read_never None ended is same = absurd (cc)
read_never (Some read_mark.Eof) ended is same =
    absurd (let it : code.Eof ≡ ended = cc in let wrong : code.Eof ≡ code.Aborted = it ∙ same in cc)
read_never (Some read_mark.Reset) ended is same =
    absurd (let it : code.Reset ≡ ended = cc in let wrong : code.Reset ≡ code.Aborted = it ∙ same in cc)

write_never : (mark : Option WriteMark) (ended : Code) → option_map write_code mark ≡ Some ended → ended ≢ code.Aborted
write_never None ended is same = absurd (cc)
write_never (Some write_mark.Broken) ended is same =
    absurd (let it : code.Broken ≡ ended = cc in let wrong : code.Broken ≡ code.Aborted = it ∙ same in cc)
write_never (Some write_mark.Reset) ended is same =
    absurd (let it : code.Reset ≡ ended = cc in let wrong : code.Reset ≡ code.Aborted = it ∙ same in cc)

read_served : (reading : Reading) (moved : ℕ) (there : List ℕ) (mark : Option ReadMark) →
    IsUncancelled (served_read reading moved there mark)
read_served (Some_bytes size) moved there mark = some_served (option_map read_code mark) (read_never mark) size (length there)
read_served (All_bytes size) moved there mark =
    all_served (option_map read_code mark) (read_never mark) size moved (length there)
read_served (Until delimiter max) moved there mark =
    until_served (option_map read_code mark) (read_never mark) (first_end delimiter (take max there)) max (length there)

write_served : (writing : Writing) (moved room : ℕ) (mark : Option WriteMark) →
    IsUncancelled (served_write writing moved room mark)
write_served (Some_of bytes) moved room mark = some_served (option_map write_code mark) (write_never mark) (length bytes) room
write_served (All_of bytes) moved room mark =
    all_served (option_map write_code mark) (write_never mark) (length bytes) moved room

All-put : {X : Type 0} (P : X → Type 0) (key : X → ℕ) (x : X) (xs : List X) → P x → All P xs → All P (put_by key x xs)
All-put P key x [] here all = All-cons P x [] here all
All-put P key x (y ∷ ys) here all =
    cond_both (nat_le (key x) (key y)) (x ∷ (y ∷ ys)) (y ∷ put_by key x ys) (All P) (λ is. All-cons P x (y ∷ ys) here all)
    (λ is. All-cons P y (put_by key x ys) (All-head P y ys all) (All-put P key x ys here (All-tail P y ys all)))

All-sorted : {X : Type 0} (P : X → Type 0) (key : X → ℕ) (xs : List X) → All P xs → All P (sorted_by key xs)
All-sorted P key [] all = all
All-sorted P key (x ∷ xs) all =
    All-put P key x (sorted_by key xs) (All-head P x xs all) (All-sorted P key xs (All-tail P x xs all))

-- what is found passes, and holds what all hold
pub found_in : {X : Type 0} (test : X → Bool) (P : X → Type 0) (xs : List X) (x : X) → find test xs ≡ Some x → All P xs →
    (test x ≡ true) × P x
found_in test P [] x is all = absurd (cc)
found_in {X} test P (y ∷ ys) x is all = by_test (test y) refl is (λ is. found_in test P ys x is (All-tail P y ys all))
  where
    by_test : (b : Bool) → test y ≡ b → cond b (Some y) (find test ys) ≡ Some x →
        (find test ys ≡ Some x → (test x ≡ true) × P x) → (test x ≡ true) × P x
    by_test true passes is rest =
        let same : y ≡ x = cc in
        subst (λ (x : X). (test x ≡ true) × P x) same (passes, All-head P y ys all)
    by_test false passes is rest = rest is

-- each stream's queues change at one stream
pub at_queues : (R : ℕ → StreamQueues → Type 0) (queues : List StreamQueues) (stream : ℕ) (new : StreamQueues) → R stream new →
    ((k : ℕ) → R k (slice_index_or queues k no_queues)) → (k : ℕ) →
    R k (slice_index_or (set queues stream new) k no_queues)
at_queues R queues stream new here all k = elim (cases_eq k stream) [
  | inl same ↦
      subst (λ (k : ℕ). R k (slice_index_or (set queues stream new) k no_queues)) (sym same)
      (elim (cases_lt stream (length queues)) [
        | inl within ↦ subst (R stream) (sym (get_or-set_same queues stream new no_queues within)) here
        | inr past ↦ subst (λ (xs : List StreamQueues). R stream (slice_index_or xs stream no_queues))
            (sym (set_past queues stream new past)) (all stream)
      ])
  | inr other ↦ subst (R k) (sym (get_or-set_other queues stream k new no_queues other)) (all k)
]

-- the operations of a stream's queues are so
abbrev pub AreQueued : (ℕ → ℕ → Type 0) → ℕ → StreamQueues → Type 0
AreQueued Q stream queues = All (λ pending. Q stream pending.op) queues.reads × All (λ pending. Q stream pending.op) queues.writes

-- the waits, by their timers, and the operations of streams are so
pub record Holds (T Q : ℕ → ℕ → Type 0) (r : ReactorHalf) : Type 0 where
  pub waits : All (λ wait. T wait.timer wait.op) r.waits
  pub queues : (stream : ℕ) → AreQueued Q stream (queues_at r stream)

module _ (Q : ℕ → Type 0) (P : Completion → Type 0)
    (serves : (n : ℕ) (outcome : Outcome) → Q n → outcome.0 ≢ code.Aborted → P (record { op = n; outcome = outcome }))
  where
    -- what is served of a queue
    record IsQueueServed {Asks : Type 0} (served : QueueServed Asks) : Type 0 where
      completed : All P served.completed
      staying : All (λ pending. Q pending.op) served.staying

    head_served : {Asks : Type 0} (head : Pending Asks) (queue : List (Pending Asks)) (used : ℕ) (left : Stream)
        (rest : QueueServed Asks) (outcome : Option Outcome) → IsServed outcome → Q head.op →
        All (λ pending. Q pending.op) queue → IsQueueServed rest →
        IsQueueServed (served_head head queue used left rest outcome)
    head_served {Asks} head queue used left rest None is here all whole = record {
      completed = All-nil P;
      staying = All-cons (λ (pending : Pending Asks). Q pending.op) (record head { moved = head.moved + used }) queue here all;
    }
    head_served head queue used left rest (Some outcome) is here all whole = record {
      completed = All-cons P (record { op = head.op; outcome = outcome }) rest.completed (serves head.op outcome here is)
          whole.completed;
      staying = whole.staying;
    }

    queue_served : {Asks : Type 0} (side : Side Asks) →
        ((asks : Asks) (moved : ℕ) (stream : Stream) → IsServed (side.served asks moved stream).outcome) →
        (queue : List (Pending Asks)) (stream : Stream) → All (λ pending. Q pending.op) queue →
        IsQueueServed (served_queue side queue stream)
    queue_served {Asks} side never [] stream all =
        record { completed = All-nil P; staying = All-nil (λ (pending : Pending Asks). Q pending.op) }
    queue_served {Asks} side never (head ∷ queue) stream all =
        let served = side.served head.asks head.moved stream in
        let left = side.after head.asks head.moved served.used stream in
        let here = All-head (λ (pending : Pending Asks). Q pending.op) head queue all in
        let rest = All-tail (λ (pending : Pending Asks). Q pending.op) head queue all in
        head_served head queue served.used left (served_queue side queue left) served.outcome
        (never head.asks head.moved stream) here rest (queue_served side never queue left rest)

-- what becomes due as a turn settles
module _ (T Q : ℕ → ℕ → Type 0) (P : Completion → Type 0)
    (serves : (stream n : ℕ) (outcome : Outcome) → Q stream n → outcome.0 ≢ code.Aborted →
    P (record { op = n; outcome = outcome })) where
  pub record IsSettled (r : ReactorHalf) : Type 0 where
    pub held : Holds T Q r
    pub due : All P r.due

  stream_served : (stream : ℕ) (r : ReactorHalf) → IsSettled r → IsSettled (served_at stream r)
  stream_served stream r is =
      let queues : StreamQueues = queues_at r stream in
      let here = is.held.queues stream in
      let reads = queue_served (Q stream) P (serves stream) reading_side
      (λ asks moved stream. read_served asks moved stream.arrived stream.read_mark) queues.reads (stream_at r.streams stream)
      here.0 in
      let left = (served_queue reading_side queues.reads (stream_at r.streams stream)).stream in
      let writes = queue_served (Q stream) P (serves stream) writing_side
      (λ asks moved stream. write_served asks moved stream.room stream.write_mark) queues.writes left here.1 in
      let served = served_stream (stream_at r.streams stream) queues in
      record {
        held = record {
          waits = is.held.waits;
          queues = at_queues (AreQueued Q) r.queues stream served.queues (reads.staying, writes.staying) is.held.queues;
        };
        due =
            All-append P r.due served.completed is.due
            (All-append P (served_queue reading_side queues.reads (stream_at r.streams stream)).completed
            (served_queue writing_side queues.writes left).completed reads.completed writes.completed);
      }

  streams_served : (k : ℕ) (r : ReactorHalf) → IsSettled r → IsSettled (served_below k r)
  streams_served zero r is = is
  streams_served (suc k) r is = stream_served k (served_below k r) (streams_served k r is)

  pub settles : (told : Bool) (r : ReactorHalf) →
      ((wait : Wait) → T wait.timer wait.op → is_due r wait ≡ true → P (waited wait)) → IsSettled r →
      IsSettled (settled told r)
  settles told r waits is =
      let whole : ReactorHalf = record (with_waits_served r) { whole_turn = true; reached = 0 } in
      let ready : List Wait = filter (is_due r) r.waits in
      let passing : All (λ wait. P (waited wait)) ready =
      All-passing (is_due r) (λ wait. T wait.timer wait.op) (λ wait. P (waited wait)) r.waits
      (λ wait held due. waits wait held due) is.held.waits in
      let served : IsSettled whole = record {
        held = record {
          waits = All-filter (λ wait. not (is_due r wait)) (λ wait. T wait.timer wait.op) r.waits is.held.waits;
          queues = is.held.queues;
        };
        due =
            All-append P r.due (due_waits r) is.due
            (All-map P waited (sorted_by (expiry_of r) ready) (All-sorted (λ wait. P (waited wait)) (expiry_of r) ready passing));
      } in
      cond_both told (served_below (length whole.queues) whole) whole IsSettled
      (λ is. streams_served (length whole.queues) whole served) (λ is. served)

-- what becomes due as an act is performed
module _ (script : ScriptModel) (X : ℕ → Type 0) (P : Completion → Type 0) where
  abbrev pub OfTimer : ℕ → ℕ → Type 0
  OfTimer timer n = IsWaitOf script timer n × X n

  abbrev pub OfStream : ℕ → ℕ → Type 0
  OfStream stream n = IsOn script stream n × X n

  pub record IsPerformed (r : ReactorHalf) : Type 0 where
    pub held : Holds OfTimer OfStream r
    pub due : All P r.due

  module _ (a : ℕ) (given : Act) (is : act_of script a ≡ Some given) (fresh : X a)
      (refused : P (bad a))
      (hit : (n moved : ℕ) (target : Act) → act_of script n ≡ Some target → may_cancel given target ≡ true → X n →
      P (aborted n moved)) where
    pub connects : (slot : Option ℕ) (r : ReactorHalf) → IsPerformed r → IsPerformed (connected slot a r)
    connects None r it = it
    connects (Some slot) r it = record {
      held = record { waits = it.held.waits; queues = it.held.queues };
      due = it.due;
    }

    pub waits_go : (test : Wait → Bool) (r : ReactorHalf) →
        ((wait : Wait) → OfTimer wait.timer wait.op → test wait ≡ true → P (aborted wait.op 0)) → IsPerformed r →
        IsPerformed (waits_cancelled test r)
    waits_go test r cancels it = record {
      held = record {
        waits = All-filter (λ wait. not (test wait)) (λ wait. OfTimer wait.timer wait.op) r.waits it.held.waits;
        queues = it.held.queues;
      };
      due =
          All-append P r.due (map (λ (wait : Wait). aborted wait.op 0) (filter test r.waits)) it.due
          (All-map P (λ (wait : Wait). aborted wait.op 0) (filter test r.waits)
          (All-passing test (λ wait. OfTimer wait.timer wait.op) (λ wait. P (aborted wait.op 0)) r.waits cancels it.held.waits));
    }

    pub read_comes : (stream : ℕ) (reading : Reading) (r : ReactorHalf) → stream_of given ≡ Some stream → IsPerformed r →
        IsPerformed (read_accepted a stream reading r)
    read_comes stream reading r on it =
        let old : StreamQueues = queues_at r stream in
        let new = new_pending a r.accepted reading in
        cond_both old.closed (with_due (bad a ∷ []) r) (with_queues r stream (record old { reads = old.reads ++ new ∷ [] }))
        IsPerformed (λ closed. record {
          held = record { waits = it.held.waits; queues = it.held.queues };
          due =
              All-push P r.due (bad a) it.due refused;
        })
        (λ opened. record {
          held = record {
            waits = it.held.waits;
            queues =
                at_queues (AreQueued OfStream) r.queues stream (record old { reads = old.reads ++ new ∷ [] }) (
                  All-push (λ (pending : Pending Reading). OfStream stream pending.op) old.reads new (it.held.queues stream).0
                      (record { act = given; is = is; on = on }, fresh),
                  (it.held.queues stream).1,
                ) it.held.queues;
          };
          due = it.due;
        })

    pub write_comes : (stream : ℕ) (writing : Writing) (r : ReactorHalf) → stream_of given ≡ Some stream → IsPerformed r →
        IsPerformed (write_accepted a stream writing r)
    write_comes stream writing r on it =
        let old : StreamQueues = queues_at r stream in
        let new = new_pending a r.accepted writing in
        cond_both old.closed (with_due (bad a ∷ []) r) (with_queues r stream (record old { writes = old.writes ++ new ∷ [] }))
        IsPerformed (λ closed. record {
          held = record { waits = it.held.waits; queues = it.held.queues };
          due =
              All-push P r.due (bad a) it.due refused;
        })
        (λ opened. record {
          held = record {
            waits = it.held.waits;
            queues =
                at_queues (AreQueued OfStream) r.queues stream (record old { writes = old.writes ++ new ∷ [] }) (
                  (it.held.queues stream).0,
                  All-push (λ (pending : Pending Writing). OfStream stream pending.op) old.writes new (it.held.queues stream).1
                      (record { act = given; is = is; on = on }, fresh),
                ) it.held.queues;
          };
          due = it.due;
        })

    -- operations of a queue that are cancelled
    all_go : {Asks : Type 0} (stream : ℕ) (queue : List (Pending Asks)) →
        ((n moved : ℕ) → OfStream stream n → P (aborted n moved)) → All (λ pending. OfStream stream pending.op) queue →
        All P (all_aborted queue)
    all_go {Asks} stream queue cancels all =
        All-map P (λ (pending : Pending Asks). aborted pending.op pending.moved) queue
        (All-weaker (λ (pending : Pending Asks). OfStream stream pending.op) (λ pending. P (aborted pending.op pending.moved))
        (λ pending held. cancels pending.op pending.moved held) queue all)

    one_go : {Asks : Type 0} (stream op : ℕ) (queue : List (Pending Asks)) →
        ((n moved : ℕ) → OfStream stream n → n ≡ op → P (aborted n moved)) →
        All (λ pending. OfStream stream pending.op) queue → All P (all_aborted (filter (is_of op) queue))
    one_go {Asks} stream op queue cancels all =
        All-map P (λ (pending : Pending Asks). aborted pending.op pending.moved) (filter (is_of op) queue)
        (All-passing (is_of op) (λ (pending : Pending Asks). OfStream stream pending.op)
        (λ pending. P (aborted pending.op pending.moved)) queue
        (λ pending held passes. cancels pending.op pending.moved held (eqb-true pending.op op passes)) all)

    pub stream_op_goes : (op stream : ℕ) (r : ReactorHalf) →
        ((n moved : ℕ) → OfStream stream n → n ≡ op → P (aborted n moved)) → IsPerformed r →
        IsPerformed (one_of_stream_cancelled op stream r)
    stream_op_goes op stream r cancels it =
        let old : StreamQueues = queues_at r stream in
        let here = it.held.queues stream in
        let new : StreamQueues = record old {
          reads = filter (λ pending. not (is_of op pending)) old.reads;
          writes = filter (λ pending. not (is_of op pending)) old.writes;
        } in
        record {
          held = record {
            waits = it.held.waits;
            queues =
                at_queues (AreQueued OfStream) r.queues stream new (
                  All-filter (λ pending. not (is_of op pending)) (λ (pending : Pending Reading). OfStream stream pending.op)
                      old.reads here.0,
                  All-filter (λ pending. not (is_of op pending)) (λ (pending : Pending Writing). OfStream stream pending.op)
                      old.writes here.1,
                ) it.held.queues;
          };
          due =
              All-append P r.due (all_aborted (filter (is_of op) old.reads) ++ all_aborted (filter (is_of op) old.writes)) it.due
              (All-append P (all_aborted (filter (is_of op) old.reads)) (all_aborted (filter (is_of op) old.writes))
              (one_go stream op old.reads cancels here.0) (one_go stream op old.writes cancels here.1));
        }

    with_writes_go : (accepted : ℕ) (read : Completion) (later : List (Pending Writing) → List Completion)
        (Each : Pending Writing → Type 0) → ((write : Pending Writing) → Each write → P (aborted write.op write.moved)) →
        P read → ((rest : List (Pending Writing)) → All Each rest → All P (later rest)) →
        (writes : List (Pending Writing)) → All Each writes → All P (with_writes accepted read later writes)
    with_writes_go accepted read later Each cancels here rest [] all = All-cons P read (later []) here (rest [] all)
    with_writes_go accepted read later Each cancels here rest (write ∷ writes) all =
        let after = with_writes_go accepted read later Each cancels here rest writes (All-tail Each write writes all) in
        cond_both (nat_lt accepted write.accepted) (read ∷ later (write ∷ writes))
        (aborted write.op write.moved ∷ with_writes accepted read later writes) (All P)
        (λ is. All-cons P read (later (write ∷ writes)) here (rest (write ∷ writes) all))
        (λ is. All-cons P (aborted write.op write.moved) (with_writes accepted read later writes)
        (cancels write (All-head Each write writes all)) after)

    pub stream_goes : (stream : ℕ) → ((n moved : ℕ) → OfStream stream n → P (aborted n moved)) →
        (reads : List (Pending Reading)) (writes : List (Pending Writing)) → All (λ pending. OfStream stream pending.op) reads →
        All (λ pending. OfStream stream pending.op) writes → All P (all_of_stream reads writes)
    stream_goes stream cancels [] writes first second = all_go stream writes cancels second
    stream_goes stream cancels (read ∷ reads) writes first second =
        let here = cancels read.op read.moved
        (All-head (λ (pending : Pending Reading). OfStream stream pending.op) read reads first) in
        let rest = All-tail (λ (pending : Pending Reading). OfStream stream pending.op) read reads first in
        with_writes_go read.accepted (aborted read.op read.moved) (all_of_stream reads)
        (λ (pending : Pending Writing). OfStream stream pending.op) (λ write held. cancels write.op write.moved held) here
        (λ writes all. stream_goes stream cancels reads writes rest all) writes second
