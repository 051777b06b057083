use Rattle.std.proofs.Common.{◌≡◌, List, length, ap, map, subst, sym, ◌∙◌, arith}
use Rattle.std.specs.List.{All}
use Rattle.stream_rules.specs.Queue.{Pending}
use Rattle.stream_rules.specs.Serving.{Reading}
use Rattle.composed_ops.specs.StreamOperation.{StreamOperation}
use Rattle.history_rules.specs.Untold.{may_give_read}
use Rattle.proactor_core.specs.declared.pending.PendingOp.{PendingOp}
use Rattle.proactor_core.specs.Due.{Due}
use Rattle.proactor_core.specs.Pending.{pending_read, progress_in, reading_asked, unmoved, IsNewRead}
use Rattle.proactor_core.proofs.QueueLemmas.{gives-end, gives-go-on, head-unmoved, may-read, reads-go-on, reads-behind}
use Rattle.proactor_core.proofs.ReadingLemmas.{changes-on, there-still}
use Rattle.proactor_core.proofs.pending.serve_reads.Goals as goal

pub returns-in-None-clause-told : goal.returns-in-None-clause-told
returns-in-None-clause-told g c =
    changes-on (g.X.Reactor.told c.args.reactor.now) (g.X.Reactor.told c.loop-head.reactor)
    (g.X.Reactor.told c.serve_read.new.reactor) c.args.stream c.loop-head.invariant.told
    c.in_ok-serve_read.ensures.told

pub returns-in-None-clause-gives : goal.returns-in-None-clause-gives
returns-in-None-clause-gives g c =
    let head = c.in-Some.head in
    let later : PendingOp = record { op = head.op; accepted = head.accepted; machine = c.serve_read.new.machine } in
    let queue = c.loop-head.queue.items in
    let new = c.push_front_reserved.new.self.items in
    let asks = ap reading_asked c.in_ok-serve_read.ensures.asks in
    let same : unmoved (pending_read head) ≡ unmoved (pending_read later) =
    ap (λ (asks : Reading).
    let p : Pending Reading = record { op = head.op; accepted = head.accepted; asks = asks; moved = 0 } in p)
    (sym asks) in
    gives-end may_give_read (map pending_read c.args.queue.now.items) (map pending_read queue) (map pending_read new)
    c.args.due.now c.loop-head.due
    (head-unmoved pending_read head later c.pop_front.new.self.items queue new c.in-Some.ensures.items
    c.push_front_reserved.ensures.items same) c.loop-head.invariant.gives

pub returns-clause-gives : goal.returns-clause-gives
returns-clause-gives g c =
    let same = ap (λ (queue : List PendingOp). map unmoved (map pending_read queue)) c.in_default.ensures.items in
    gives-end may_give_read (map pending_read c.args.queue.now.items) (map pending_read c.loop-head.queue.items)
    (map pending_read c.pop_front.new.self.items) c.args.due.now c.loop-head.due same c.loop-head.invariant.gives

pub loop-head-preserved : goal.loop-head-preserved
loop-head-preserved g c =
    let before = c.loop-head.invariant in
    let once = c.in_ok-serve_read.ensures in
    let first = g.X.Reactor.told c.args.reactor.now in
    let told = g.X.Reactor.told c.loop-head.reactor in
    let left = g.X.Reactor.told c.serve_read.new.reactor in
    let number = c.args.stream in
    let head = c.in-Some.head in
    let queue = c.pop_front.new.self.items in
    let popped = c.in-Some.ensures.items in
    let outcome = c.in-Some-2.outcome in
    let reads = rw popped at before.reads in
    let gives = rw popped at before.gives in
    let served = rw popped at before.served in
    let allowed = rw c.in-Some-2.is at once.allowed in
    let follows = rw c.in-Some-2.is at once.follows in
    let asks : StreamOperation = (progress_in head).asks in
    let spare = ap (λ (d : Due). d.spare) c.push_reserved.ensures in
    record {
      keeps = once.keeps ∙ before.keeps;
      faults = once.counts ∙ before.faults;
      telling = once.tells ∙ before.telling;
      room = once.room ∙ before.room;
      there = there-still told left number once.told before.there;
      told = changes-on first told left number before.told once.told;
      queue_room = c.in-Some.ensures.capacity ∙ before.queue_room;
      due_room = omega (arith, c.in-Some.ensures.len, spare, before.due_room);
      reads =
          reads-behind (length c.args.buffer.now) c.serve_read.new.held queue
          (subst (λ n. All (λ pending. IsNewRead (length c.args.buffer.now) n (progress_in pending)) queue)
          (sym once.room) reads.1);
      gives =
          gives-go-on may_give_read (map pending_read c.args.queue.now.items) (map pending_read queue)
          (pending_read head) c.args.due.now c.loop-head.due c.push_reserved.new.self outcome
          (may-read asks outcome.0 outcome.1 reads.0.reads allowed) c.push_reserved.ensures gives;
      served =
          reads-go-on first told left number (map pending_read c.args.queue.now.items) head queue
          (progress_in (record { op = head.op; accepted = head.accepted; machine = c.serve_read.new.machine }))
          c.args.held.now.bytes c.loop-head.held.bytes c.serve_read.new.held.bytes c.args.due.now c.loop-head.due
          c.push_reserved.new.self outcome before.told reads.0.reads c.push_reserved.ensures follows served;
    }

pub returns-in_err-serve_read-clause-reads : goal.returns-in_err-serve_read-clause-reads
returns-in_err-serve_read-clause-reads g c =
    let reads = rw c.in-Some.ensures.items at c.loop-head.invariant.reads in
    reads-behind (length c.args.buffer.now) c.serve_read.new.held c.pop_front.new.self.items (subst
    (λ n. All (λ pending. IsNewRead (length c.args.buffer.now) n (progress_in pending)) c.pop_front.new.self.items)
    (sym c.in_err-serve_read.ensures.room) reads.1)
