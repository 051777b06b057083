use Rattle.std.proofs.Common.{◌++◌, [], true, length, set, ap, sym, ◌∙◌, arith}
use Rattle.std.proofs.lemmas.List.{length-set}
use Rattle.history_book.specs.Asking.{asked_reading, asked_writing, IsReading, IsWriting}
use Rattle.history_rules.specs.Performing.{all_of_stream}
use Rattle.stream_rules.specs.Stream.{closed_stream}
use Rattle.stream_rules.specs.World.{stream_at}
use Rattle.history_book.specs.Played.{Played}
use Rattle.history_rules.specs.State.{StreamQueues}
use Rattle.history_book.proofs.QueuesLemmas.{all-count}
use Rattle.history_book.proofs.RoomLemmas.{queues-at, queues-changed, size-pending, AreQueues-at, IsRoomy-changed, IsRoomy-streams, All-none}
use Rattle.history_book.proofs.reactor_half.ReactorWorks.shut.Goals as goal

pub abort_all-requires : goal.abort_all-requires
abort_all-requires c =
    let s = c.self.inside in
    let old = c.in-Some.queues.now in
    let size =
    size-pending s.script.now s.waits.items s.queues.items s.due.items c.args.stream old c.in-Some.ensures.item.3.0
    c.in-Some.ensures.value in
    omega (arith, old.reads.ok.0, old.writes.ok.0, s.due.ok.0, c.self.invariant.pending, c.self.invariant.due_room)

pub invariant_of-self-2 : goal.invariant_of-self-2
invariant_of-self-2 c =
    let s = c.self.inside in
    let old = c.in-Some.queues.now in
    let at = c.in-Some.ensures.item.3.0 in
    let is = c.in-Some.ensures.value in
    let all = c.abort_all in
    let are = AreQueues-at s.script.now s.world s.waits s.queues.items s.due c.args.stream old c.self.invariant at is in
    let count =
    all-count (asked_reading s.script.now) (asked_writing s.script.now) old.reads.items old.writes.items s.due.items
    all.new.due.items (all.ensures.due (asked_reading s.script.now) (asked_writing s.script.now)) in
    let reads_left = ap length all.ensures.reads in
    let writes_left = ap length all.ensures.writes in
    IsRoomy-streams s.script.now s.world c.close.new.self s.waits
    (set s.queues.items c.args.stream (record { closed = true; reads = all.new.reads; writes = all.new.writes }))
    all.new.due
    (IsRoomy-changed s.script.now s.world s.waits s.queues.items s.due all.new.due c.args.stream old
    (record { closed = true; reads = all.new.reads; writes = all.new.writes }) c.self.invariant at is
    (record {
      reads = rw all.ensures.reads (All-none (IsReading s.script.now));
      writes = rw all.ensures.writes (All-none (IsWriting s.script.now));
      reads_room = rw all.ensures.reads_room are.reads_room;
      writes_room = rw all.ensures.writes_room are.writes_room;
    }) all.ensures.due_room (omega (arith, c.self.invariant.pending)))
    (ap (λ (w : Played). w.lines) c.close.ensures) (ap (λ (w : Played). length w.streams) c.close.ensures
    ∙ length-set s.world.streams c.args.stream (closed_stream (stream_at s.world.streams c.args.stream)))

pub returns : goal.returns
returns c =
    let s = c.self.inside in
    let old = c.in-Some.queues.now in
    let at = c.in-Some.ensures.item.3.0 in
    let is = c.in-Some.ensures.value in
    let all = c.abort_all in
    let here = queues-at s.script.now s.queues.items c.args.stream old at is in
    let change = λ (q : StreamQueues).
    let closed : StreamQueues = record { closed = true; reads = []; writes = [] } in closed in
    let changed =
    queues-changed s.script.now s.queues.items c.args.stream old
    (record { closed = true; reads = all.new.reads; writes = all.new.writes }) change at is
    (rw (all.ensures.reads, all.ensures.writes)) in
    let due_of = λ (q : StreamQueues). s.due.items ++ all_of_stream q.reads q.writes in
    let dues = all.ensures.due (asked_reading s.script.now) (asked_writing s.script.now) ∙ ap due_of (sym here) in
    rw (← c.self.view_is, c.close.ensures, changed, dues)
