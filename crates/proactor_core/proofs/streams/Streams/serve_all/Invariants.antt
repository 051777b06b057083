use Rattle.std.proofs.Common.{◌≡◌, ◌<◌, ◌≤◌, ℕ, length}
use Rattle.proactor_core.specs.Reactor.{tells}
use Rattle.proactor_core.specs.Streams.{pending_in_all, queues_in, stream_in, AreServable, AreServedBelow}
use Rattle.proactor_core.specs.Untold.{AreUnderWay}
use Rattle.proactor_core.proofs.streams.Streams.serve_all.Given as goal

abbrev pub invariant-loop-stream : goal.invariant-loop-stream
invariant-loop-stream g l = record {
  ends : l.stream-end ≡ length l.initial.self;
  count : length l.self ≡ length l.initial.self;
  keeps : g.X.Reactor.state l.reactor ≡ g.X.Reactor.state l.initial.reactor;
  faults : g.X.Reactor.faults l.reactor ≡ g.X.Reactor.faults l.initial.reactor;
  telling : tells (g.X.Reactor.told l.reactor) ≡ tells (g.X.Reactor.told l.initial.reactor);
  servable : AreServable l.self (g.X.Reactor.state l.reactor) (g.X.Reactor.told l.reactor);
  spare : pending_in_all l.self ≤ l.due.spare;
  under_way : (n : ℕ) → n < l.stream → AreUnderWay (queues_in (stream_in l.self n));
  served : AreServedBelow (g.X.Reactor.state l.initial.reactor).last l.stream l.initial.self l.self
      (g.X.Reactor.told l.initial.reactor) (g.X.Reactor.told l.reactor) l.initial.due l.due;
}
