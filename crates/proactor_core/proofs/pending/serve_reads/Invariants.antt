use Rattle.std.proofs.Common.{◌≡◌, ◌<◌, ◌≤◌, length, map}
use Rattle.std.specs.Option.{IfSome}
use Rattle.std.specs.VecDeque.{deque_capacity, deque_len}
use Rattle.stream_rules.specs.Queue.{reading_side}
use Rattle.history_rules.specs.Untold.{may_give_read}
use Rattle.proactor_core.specs.Pending.{pending_read, AreReads}
use Rattle.proactor_core.specs.Reactor.{tells, whole_told, ChangesOne}
use Rattle.proactor_core.proofs.QueueLemmas.{GivesSoFar, RulesSoFar}
use Rattle.proactor_core.proofs.pending.serve_reads.Given as goal

abbrev pub invariant-loop-head : goal.invariant-loop-head
invariant-loop-head g l = record {
  keeps : g.X.Reactor.state l.reactor ≡ g.X.Reactor.state l.initial.reactor;
  faults : g.X.Reactor.faults l.reactor ≡ g.X.Reactor.faults l.initial.reactor;
  telling : tells (g.X.Reactor.told l.reactor) ≡ tells (g.X.Reactor.told l.initial.reactor);
  room : l.held.room ≡ l.initial.held.room;
  there : IfSome (g.X.Reactor.told l.reactor) (λ outside. l.stream < length outside.streams);
  told : ChangesOne l.stream (g.X.Reactor.told l.initial.reactor) (g.X.Reactor.told l.reactor);
  queue_room : deque_capacity l.queue ≡ deque_capacity l.initial.queue;
  due_room : deque_len l.queue ≤ l.due.spare;
  reads : AreReads (length l.initial.buffer) l.held l.queue.items;
  gives : GivesSoFar may_give_read (map pending_read l.initial.queue.items) (map pending_read l.queue.items)
      l.initial.due l.due;
  served : IfSome (g.X.Reactor.told l.initial.reactor) (λ _. RulesSoFar reading_side
      (map pending_read l.initial.queue.items) (map pending_read l.queue.items)
      (whole_told l.initial.held.bytes (g.X.Reactor.told l.initial.reactor) l.stream)
      (whole_told l.held.bytes (g.X.Reactor.told l.reactor) l.stream) l.initial.due l.due);
}

abbrev pub decreases-loop-head : goal.decreases-loop-head
decreases-loop-head g l = deque_len l.queue
