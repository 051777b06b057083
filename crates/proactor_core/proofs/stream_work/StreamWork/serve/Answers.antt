use Rattle.std.proofs.Common.{map, refl, ap, arith}
use Rattle.std.proofs.lemmas.List.{length-map}
use Rattle.std.specs.VecDeque.{deque_capacity}
use Rattle.history_rules.specs.Untold.{may_give_read, may_give_write}
use Rattle.stream_rules.specs.Queue.{reading_side, writing_side}
use Rattle.proactor_core.specs.Due.{Due}
use Rattle.proactor_core.specs.Pending.{pending_read, pending_write, IsServedBy}
use Rattle.proactor_core.specs.Reactor.{whole_told}
use Rattle.proactor_core.specs.Streams.{IsStreamServed, StreamView}
use Rattle.proactor_core.proofs.QueueLemmas.{gives-count, gives-none, join-told, stream-served}
use Rattle.proactor_core.proofs.ReadingLemmas.{changes-on}
use Rattle.proactor_core.proofs.stream_work.StreamWork.serve.Goals as goal

pub returns-then-self-clause-gives : goal.returns-then-self-clause-gives
returns-then-self-clause-gives g c = record {
  between = c.args.due.now;
  reads = gives-none may_give_read c.args.self.now.reads c.args.due.now;
  writes = gives-none may_give_write c.args.self.now.writes c.args.due.now;
}

pub serve_writes-requires-clause-room : goal.serve_writes-requires-clause-room
serve_writes-requires-clause-room g c =
    let gives = c.in_ok-serve_reads.ensures.gives in
    let spare = ap (λ (d : Due). d.spare) gives.due in
    let reads = c.self.inside.reads.items in
    let writes = c.self.inside.writes.items in
    let count =
    gives-count may_give_read (map pending_read reads) (map pending_read c.serve_reads.new.queue.items) gives.completed
    gives.in_order in
    let room = rw (← c.self.view_is) at c.requires.spare in
    omega (arith, spare, count, room, length-map reads pending_read, length-map writes pending_write)

pub returns-clause-told : goal.returns-clause-told
returns-clause-told g c =
    changes-on (g.X.Reactor.told c.args.reactor.now) (g.X.Reactor.told c.serve_reads.new.reactor)
    (g.X.Reactor.told c.serve_writes.new.reactor) c.args.stream c.in_ok-serve_reads.ensures.told
    c.in_ok-serve_writes.ensures.told

pub returns-clause-served : goal.returns-clause-served
returns-clause-served g c =
    let first = g.X.Reactor.told c.args.reactor.now in
    let told = g.X.Reactor.told c.serve_reads.new.reactor in
    let left = g.X.Reactor.told c.serve_writes.new.reactor in
    let number = c.args.stream in
    let old = c.args.due.now in
    let now = c.serve_reads.new.due in
    let new = c.serve_writes.new.due in
    let held = c.self.inside.held.bytes in
    let kept = c.serve_reads.new.held.bytes in
    let reads = map pending_read c.self.inside.reads.items in
    let later_reads = map pending_read c.serve_reads.new.queue.items in
    let writes = map pending_write c.self.inside.writes.items in
    let later_writes = map pending_write c.serve_writes.new.queue.items in
    let before : StreamView = record {
      held = held;
      room = c.self.inside.held.room;
      closed = c.self.inside.closed;
      reads = reads;
      writes = writes;
      reads_room = deque_capacity c.self.inside.reads;
      writes_room = deque_capacity c.self.inside.writes;
    } in
    let after : StreamView = record {
      held = kept;
      room = c.serve_reads.new.held.room;
      closed = c.self.inside.closed;
      reads = later_reads;
      writes = later_writes;
      reads_room = deque_capacity c.serve_reads.new.queue;
      writes_room = deque_capacity c.serve_writes.new.queue;
    } in
    let there = whole_told held first number in
    let between = whole_told kept told number in
    let over = whole_told kept left number in
    let P = IsServedBy reading_side reads later_reads there between old now in
    let Q = IsServedBy writing_side writes later_writes between over now new in
    let R = IsStreamServed before after there over old new in
    let joined : P → Q → R = λ p q. stream-served before after there between over old now new refl p q in
    rw (← c.self.view_is) (join-told first told number P Q R c.in_ok-serve_reads.ensures.told joined
    c.in_ok-serve_reads.ensures.served (c.in_ok-serve_writes.ensures.served kept))
