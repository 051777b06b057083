use Rattle.std.proofs.Common.{◌++◌, List, filter, length, map, not, ap, sym, append_assoc, arith, ◌∙◌}
use Rattle.std.specs.VecDeque.{deque_capacity}
use Rattle.std.proofs.lemmas.List.{length-append, length-map}
use Rattle.stream_rules.specs.declared.queue.Completion.{Completion}
use Rattle.stream_rules.specs.Queue.{Pending}
use Rattle.stream_rules.specs.Serving.{Reading, Writing}
use Rattle.history_rules.specs.Performing.{all_aborted, is_of}
use Rattle.proactor_core.specs.declared.pending.PendingOp.{PendingOp}
use Rattle.proactor_core.specs.Aborting.{abort_of_pending, is_pending_op}
use Rattle.proactor_core.specs.Due.{listed}
use Rattle.proactor_core.specs.Pending.{pending_read, pending_write, progress_in}
use Rattle.proactor_core.specs.Streams.{StreamView}
use Rattle.proactor_core.specs.Writing.{MayWrite}
use Rattle.proactor_core.proofs.AbortingLemmas.{aborts-fewer, all-filtered, due-listed, joined-same, reads-aborted, reads-filtered, reads-left, view-changed, writes-aborted, writes-left}
use Rattle.proactor_core.proofs.stream_work.StreamWork.cancel.Goals as goal

pub abort_in-requires-2 : goal.abort_in-requires-2
abort_in-requires-2 c =
    let op = c.args.op in
    let reads = c.self.inside.reads.items in
    let writes = c.self.inside.writes.items in
    let room = rw (← c.self.view_is) at c.requires in
    let came = ap length c.abort_in.ensures.coming in
    let more = length-append c.args.due.now.coming (map abort_of_pending (filter (is_pending_op op) reads)) in
    omega (
      arith,
      room,
      came,
      more,
      aborts-fewer op reads,
      c.abort_in.ensures.room,
      length-map reads pending_read,
      length-map writes pending_write,
    )

pub invariant_of-self : goal.invariant_of-self
invariant_of-self c =
    let op = c.args.op in
    let held = c.self.inside.held in
    let stays = λ (pending : PendingOp). not (is_pending_op op pending) in
    let reads = reads-filtered held.room held stays c.self.inside.reads.items c.self.invariant.are_reads in
    let writes =
    all-filtered (λ pending. MayWrite (progress_in pending)) stays c.self.inside.writes.items c.self.invariant.are_writes in
    record {
      are_reads = rw c.abort_in.ensures.queue reads;
      are_writes = rw c.abort_in-2.ensures.queue writes;
      no_reads = λ shut. c.abort_in.ensures.queue ∙ ap (filter stays) (c.self.invariant.no_reads shut);
      no_writes = λ shut. c.abort_in-2.ensures.queue ∙ ap (filter stays) (c.self.invariant.no_writes shut);
    }

pub returns-clause-cancelled : goal.returns-clause-cancelled
returns-clause-cancelled c =
    let op = c.args.op in
    let first_reads = c.self.inside.reads.items in
    let first_writes = c.self.inside.writes.items in
    let reads = ap (map pending_read) c.abort_in.ensures.queue ∙ sym (reads-left op first_reads) in
    let writes = ap (map pending_write) c.abort_in-2.ensures.queue ∙ sym (writes-left op first_writes) in
    let left_reads = filter (λ (pending : Pending Reading). not (is_of op pending)) (map pending_read first_reads) in
    let left_writes = filter (λ (pending : Pending Writing). not (is_of op pending)) (map pending_write first_writes) in
    let view : StreamView = record {
      held = c.self.inside.held.bytes;
      room = c.self.inside.held.room;
      closed = c.self.inside.closed;
      reads = left_reads;
      writes = left_writes;
      reads_room = deque_capacity c.self.inside.reads;
      writes_room = deque_capacity c.self.inside.writes;
    } in
    rw (← c.self.view_is) (view-changed view left_reads (map pending_read c.abort_in.new.queue.items) left_writes
    (map pending_write c.abort_in-2.new.queue.items) (deque_capacity c.self.inside.reads)
    (deque_capacity c.abort_in.new.queue) (deque_capacity c.self.inside.writes)
    (deque_capacity c.abort_in-2.new.queue) reads writes c.abort_in.ensures.queue_room
    c.abort_in-2.ensures.queue_room)

pub returns-clause-due : goal.returns-clause-due
returns-clause-due c =
    let op = c.args.op in
    let old = c.args.due.now in
    let reads = map abort_of_pending (filter (is_pending_op op) c.self.inside.reads.items) in
    let writes = map abort_of_pending (filter (is_pending_op op) c.self.inside.writes.items) in
    let coming =
    c.abort_in-2.ensures.coming ∙ ap (λ (cs : List Completion). cs ++ writes) c.abort_in.ensures.coming
    ∙ append_assoc old.coming reads writes in
    let room = c.abort_in-2.ensures.room ∙ c.abort_in.ensures.room in
    let seen_reads = all_aborted (filter (is_of op) (map pending_read c.self.inside.reads.items)) in
    let seen_writes = all_aborted (filter (is_of op) (map pending_write c.self.inside.writes.items)) in
    let both =
    joined-same reads writes seen_reads seen_writes (sym (reads-aborted op c.self.inside.reads.items))
    (sym (writes-aborted op c.self.inside.writes.items)) in
    rw (← c.self.view_is) (due-listed old c.abort_in-2.new.due (reads ++ writes) coming room
    ∙ ap (λ (cs : List Completion). listed cs old) both)
