use Rattle.std.proofs.Common.{◌≡◌, ◌-◌, ◌<◌, length}
use Rattle.std.specs.Option.{IfSome}
use Rattle.composed_ops.specs.Feeding.{course_of}
use Rattle.composed_ops.specs.Progress.{StreamProgress}
use Rattle.proactor_core.specs.Reactor.{tells, ChangesOne}
use Rattle.proactor_core.specs.Reading.{exchange_at}
use Rattle.proactor_core.proofs.reading.fill.Given as goal

abbrev pub invariant-loop-held : goal.invariant-loop-held
invariant-loop-held g l = record {
  keeps : g.X.Reactor.state l.reactor ≡ g.X.Reactor.state l.initial.reactor;
  faults : g.X.Reactor.faults l.reactor ≡ g.X.Reactor.faults l.initial.reactor;
  telling : tells (g.X.Reactor.told l.reactor) ≡ tells (g.X.Reactor.told l.initial.reactor);
  room : l.held.room ≡ l.initial.held.room;
  there : IfSome (g.X.Reactor.told l.reactor) (λ outside. l.stream < length outside.streams);
  told : ChangesOne l.stream (g.X.Reactor.told l.initial.reactor) (g.X.Reactor.told l.reactor);
  same : IfSome (g.X.Reactor.told l.initial.reactor) (λ _. (progress : StreamProgress) →
      course_of (exchange_at progress l.held.bytes (g.X.Reactor.told l.reactor) l.stream)
      ≡ course_of (exchange_at progress l.initial.held.bytes (g.X.Reactor.told l.initial.reactor) l.stream));
}

abbrev pub decreases-loop-held : goal.decreases-loop-held
decreases-loop-held g l = l.size - length l.held.bytes
