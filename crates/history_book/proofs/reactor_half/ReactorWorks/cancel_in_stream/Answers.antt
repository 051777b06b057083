use Rattle.std.proofs.Common.{◌≡◌, ◌++◌, length, not, filter, ap, sym, ◌∙◌, append_assoc, arith}
use Rattle.history_book.specs.Asking.{asked_reading, asked_writing, queues_of, IsReading, IsWriting}
use Rattle.history_rules.specs.Performing.{all_aborted, is_of}
use Rattle.history_book.specs.Queues.{aborts_of, is_queued}
use Rattle.history_rules.specs.State.{StreamQueues}
use Rattle.history_book.proofs.QueuesLemmas.{filter-asked, aborts-asked}
use Rattle.history_book.proofs.RoomLemmas.{queues-at, queues-changed, size-pending, AreQueues-at, IsRoomy-changed, All-left, left-count}
use Rattle.history_book.proofs.reactor_half.ReactorWorks.cancel_in_stream.Goals as goal

pub abort_in-requires : goal.abort_in-requires
abort_in-requires c =
    let s = c.self.inside in
    let old = c.in-Some.queues.now in
    let size =
    size-pending s.script.now s.waits.items s.queues.items s.due.items c.args.stream old c.in-Some.ensures.item.3.0
    c.in-Some.ensures.value in
    omega (arith, old.reads.ok.0, s.due.ok.0, c.self.invariant.pending, c.self.invariant.due_room)

pub abort_in-requires-2 : goal.abort_in-requires-2
abort_in-requires-2 c =
    let s = c.self.inside in
    let old = c.in-Some.queues.now in
    let size =
    size-pending s.script.now s.waits.items s.queues.items s.due.items c.args.stream old c.in-Some.ensures.item.3.0
    c.in-Some.ensures.value in
    let left = left-count c.args.op old.reads.items s.due.items c.abort_in.new.due.items c.abort_in.ensures.due in
    omega (
      arith,
      old.reads.ok.0,
      old.writes.ok.0,
      s.due.ok.0,
      c.abort_in.new.due.ok.0,
      c.abort_in.ensures.due_room,
      c.self.invariant.pending,
      c.self.invariant.due_room,
    )

pub invariant_of-self-2 : goal.invariant_of-self-2
invariant_of-self-2 c =
    let s = c.self.inside in
    let old = c.in-Some.queues.now in
    let at = c.in-Some.ensures.item.3.0 in
    let is = c.in-Some.ensures.value in
    let one = c.abort_in in
    let two = c.abort_in-2 in
    let are = AreQueues-at s.script.now s.world s.waits s.queues.items s.due c.args.stream old c.self.invariant at is in
    let reads = left-count c.args.op old.reads.items s.due.items one.new.due.items one.ensures.due in
    let writes = left-count c.args.op old.writes.items one.new.due.items two.new.due.items two.ensures.due in
    let reads_left = ap length one.ensures.queue in
    let writes_left = ap length two.ensures.queue in
    IsRoomy-changed s.script.now s.world s.waits s.queues.items s.due two.new.due c.args.stream old
    (record { closed = old.closed; reads = one.new.queue; writes = two.new.queue }) c.self.invariant at is
    (record {
      reads = rw one.ensures.queue (All-left (IsReading s.script.now) c.args.op old.reads.items are.reads);
      writes = rw two.ensures.queue (All-left (IsWriting s.script.now) c.args.op old.writes.items are.writes);
      reads_room = rw one.ensures.queue_room are.reads_room;
      writes_room = rw two.ensures.queue_room are.writes_room;
    }) (two.ensures.due_room ∙ one.ensures.due_room) (omega (arith, c.self.invariant.pending))

pub returns : goal.returns
returns c =
    let s = c.self.inside in
    let old = c.in-Some.queues.now in
    let at = c.in-Some.ensures.item.3.0 in
    let is = c.in-Some.ensures.value in
    let one = c.abort_in in
    let two = c.abort_in-2 in
    let op = c.args.op in
    let here = queues-at s.script.now s.queues.items c.args.stream old at is in
    let change = λ (q : StreamQueues). record q {
      reads = filter (λ pending. not (is_of op pending)) q.reads;
      writes = filter (λ pending. not (is_of op pending)) q.writes;
    } in
    let changed =
    queues-changed s.script.now s.queues.items c.args.stream old
    (record { closed = old.closed; reads = one.new.queue; writes = two.new.queue }) change at is
    (rw (
      one.ensures.queue,
      two.ensures.queue,
      filter-asked (asked_reading s.script.now) op old.reads.items,
      filter-asked (asked_writing s.script.now) op old.writes.items,
    )) in
    let listed =
    two.ensures.due ∙ ap (λ d. d ++ aborts_of (is_queued op) old.writes.items) one.ensures.due
    ∙ append_assoc s.due.items (aborts_of (is_queued op) old.reads.items) (aborts_of (is_queued op) old.writes.items) in
    let due_of = λ (q : StreamQueues).
    s.due.items ++ (all_aborted (filter (is_of op) q.reads) ++ all_aborted (filter (is_of op) q.writes)) in
    let same : due_of (queues_of s.script.now old)
    ≡ s.due.items ++ (aborts_of (is_queued op) old.reads.items ++ aborts_of (is_queued op) old.writes.items) =
    rw (
      aborts-asked (asked_reading s.script.now) op old.reads.items,
      aborts-asked (asked_writing s.script.now) op old.writes.items,
    ) in
    let dues = listed ∙ sym same ∙ ap due_of (sym here) in
    rw (← c.self.view_is, changed, dues)
