use Rattle.std.proofs.Common.{◌≡◌, [], suc, List, ap, map, sym, ◌∙◌, arith}
use Rattle.std.proofs.lemmas.Grind.{common_steps}
use Rattle.stream_rules.specs.Queue.{Pending, writing_side}
use Rattle.stream_rules.specs.Serving.{Writing}
use Rattle.composed_ops.specs.StreamOperation.{StreamOperation}
use Rattle.history_rules.specs.Untold.{may_give_write}
use Rattle.proactor_core.specs.declared.pending.PendingOp.{PendingOp}
use Rattle.proactor_core.specs.Due.{Due}
use Rattle.proactor_core.specs.Pending.{pending_write, progress_in, writing_asked, unmoved}
use Rattle.proactor_core.specs.Reactor.{whole_told}
use Rattle.proactor_core.proofs.QueueLemmas.{gives-end, gives-go-on, head-unmoved, may-write, rules-over, writes-go-on, writes-kept, writes-stay}
use Rattle.proactor_core.proofs.ReadingLemmas.{changes-on, there-still}
use Rattle.proactor_core.proofs.pending.serve_writes.Goals as goal

pub returns-in-None-clause-told : goal.returns-in-None-clause-told
returns-in-None-clause-told g c =
    changes-on (g.X.Reactor.told c.args.reactor.now) (g.X.Reactor.told c.loop-head.reactor)
    (g.X.Reactor.told c.serve_write.new.reactor) c.args.stream c.loop-head.invariant.told
    c.in_ok-serve_write.ensures.told

pub returns-in-None-clause-gives : goal.returns-in-None-clause-gives
returns-in-None-clause-gives g c =
    let head = c.in-Some.head in
    let later : PendingOp = record { op = head.op; accepted = head.accepted; machine = c.serve_write.new.machine } in
    let queue = c.loop-head.queue.items in
    let new = c.push_front_reserved.new.self.items in
    let asks = ap writing_asked c.in_ok-serve_write.ensures.asks in
    let same : unmoved (pending_write head) ≡ unmoved (pending_write later) =
    ap (λ (asks : Writing).
    let p : Pending Writing = record { op = head.op; accepted = head.accepted; asks = asks; moved = 0 } in p)
    (sym asks) in
    gives-end may_give_write (map pending_write c.args.queue.now.items) (map pending_write queue)
    (map pending_write new) c.args.due.now c.loop-head.due
    (head-unmoved pending_write head later c.pop_front.new.self.items queue new c.in-Some.ensures.items
    c.push_front_reserved.ensures.items same) c.loop-head.invariant.gives

pub returns-clause-gives : goal.returns-clause-gives
returns-clause-gives g c =
    let same = ap (λ (queue : List PendingOp). map unmoved (map pending_write queue)) c.in_default.ensures.items in
    gives-end may_give_write (map pending_write c.args.queue.now.items) (map pending_write c.loop-head.queue.items)
    (map pending_write c.pop_front.new.self.items) c.args.due.now c.loop-head.due same c.loop-head.invariant.gives

pub returns-in-None-clause-writes : goal.returns-in-None-clause-writes
returns-in-None-clause-writes g c =
    let once = rw c.in-None.is at c.in_ok-serve_write.ensures.writes in
    let before = rw c.in-Some.ensures.items at c.loop-head.invariant.writes in
    rw c.push_front_reserved.ensures.items (writes-kept c.in-Some.head
    (record { op = c.in-Some.head.op; accepted = c.in-Some.head.accepted; machine = c.serve_write.new.machine })
    c.pop_front.new.self.items once before)

pub returns-in-None-clause-served : goal.returns-in-None-clause-served
returns-in-None-clause-served g c = λ held.
    let head = c.in-Some.head in
    let later : PendingOp = record { op = head.op; accepted = head.accepted; machine = c.serve_write.new.machine } in
    let popped = c.in-Some.ensures.items in
    let before = rw popped at c.loop-head.invariant.served in
    let writes = rw popped at c.loop-head.invariant.writes in
    let follows = rw c.in-None.is at c.in_ok-serve_write.ensures.follows in
    let asks = ap writing_asked c.in_ok-serve_write.ensures.asks in
    let same : pending_write later ≡ record (pending_write head) { moved = (progress_in later).moved } =
    ap (λ (asks : Writing).
    let p : Pending Writing = record {
      op = head.op;
      accepted = head.accepted;
      asks = asks;
      moved = (progress_in later).moved;
    } in
    p) asks in
    let stays =
    writes-stay (g.X.Reactor.told c.args.reactor.now) (g.X.Reactor.told c.loop-head.reactor)
    (g.X.Reactor.told c.serve_write.new.reactor) c.args.stream (map pending_write c.args.queue.now.items) head later
    c.pop_front.new.self.items held c.args.due.now c.loop-head.due c.loop-head.invariant.told
    (writes 0 head (omega arith)).writes same (follows held) (before held) in
    rw c.push_front_reserved.ensures.items stays

pub returns-clause-served : goal.returns-clause-served
returns-clause-served g c = λ held.
    let none : c.pop_front.new.self.items ≡ [] = grind (arith, common_steps) in
    let before = rw c.in_default.ensures.items at c.loop-head.invariant.served in
    rules-over writing_side (g.X.Reactor.told c.args.reactor.now) (map pending_write c.args.queue.now.items)
    (map pending_write c.pop_front.new.self.items)
    (whole_told held (g.X.Reactor.told c.args.reactor.now) c.args.stream)
    (whole_told held (g.X.Reactor.told c.loop-head.reactor) c.args.stream) c.args.due.now c.loop-head.due
    (ap (map pending_write) none) (before held)

pub loop-head-preserved : goal.loop-head-preserved
loop-head-preserved g c =
    let before = c.loop-head.invariant in
    let once = c.in_ok-serve_write.ensures in
    let first = g.X.Reactor.told c.args.reactor.now in
    let told = g.X.Reactor.told c.loop-head.reactor in
    let left = g.X.Reactor.told c.serve_write.new.reactor in
    let number = c.args.stream in
    let head = c.in-Some.head in
    let queue = c.pop_front.new.self.items in
    let popped = c.in-Some.ensures.items in
    let outcome = c.in-Some-2.outcome in
    let writes = rw popped at before.writes in
    let gives = rw popped at before.gives in
    let served = rw popped at before.served in
    let allowed = rw c.in-Some-2.is at once.allowed in
    let follows = rw c.in-Some-2.is at once.follows in
    let asks : StreamOperation = (progress_in head).asks in
    let spare = ap (λ (d : Due). d.spare) c.push_reserved.ensures in
    record {
      keeps = once.keeps ∙ before.keeps;
      faults = once.counts ∙ before.faults;
      telling = once.tells ∙ before.telling;
      there = there-still told left number once.told before.there;
      told = changes-on first told left number before.told once.told;
      queue_room = c.in-Some.ensures.capacity ∙ before.queue_room;
      due_room = omega (arith, c.in-Some.ensures.len, spare, before.due_room);
      writes = λ k d within. writes (suc k) d (omega arith);
      gives =
          gives-go-on may_give_write (map pending_write c.args.queue.now.items) (map pending_write queue)
          (pending_write head) c.args.due.now c.loop-head.due c.push_reserved.new.self outcome
          (may-write asks outcome.0 outcome.1 (writes 0 head (omega arith)).writes allowed) c.push_reserved.ensures
          gives;
      served = λ held.
          writes-go-on first told left number (map pending_write c.args.queue.now.items) head queue
          (progress_in (record { op = head.op; accepted = head.accepted; machine = c.serve_write.new.machine })) held
          c.args.due.now c.loop-head.due c.push_reserved.new.self outcome before.told
          (writes 0 head (omega arith)).writes c.push_reserved.ensures (follows held) (served held);
    }

pub returns-in_err-serve_write-clause-writes : goal.returns-in_err-serve_write-clause-writes
returns-in_err-serve_write-clause-writes g c =
    let writes = rw c.in-Some.ensures.items at c.loop-head.invariant.writes in
    λ k d within. writes (suc k) d (omega arith)
