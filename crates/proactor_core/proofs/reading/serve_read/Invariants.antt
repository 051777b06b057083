use Rattle.std.proofs.Common.{◌≡◌, ◌<◌, length}
use Rattle.std.specs.Option.{IfSome}
use Rattle.composed_ops.specs.Feeding.{course_of}
use Rattle.composed_ops.specs.Machine.{progress_of}
use Rattle.proactor_core.specs.Reactor.{tells, told_stream, ChangesOne}
use Rattle.proactor_core.specs.Reading.{exchange_at, pieces_left, IsGathered, MayRead}
use Rattle.proactor_core.proofs.reading.serve_read.Given as goal

abbrev pub invariant-rounds : goal.invariant-rounds
invariant-rounds g l = record {
  keeps : g.X.Reactor.state l.reactor ≡ g.X.Reactor.state l.fn.reactor;
  faults : g.X.Reactor.faults l.reactor ≡ g.X.Reactor.faults l.fn.reactor;
  telling : tells (g.X.Reactor.told l.reactor) ≡ tells (g.X.Reactor.told l.fn.reactor);
  room : l.held.room ≡ l.fn.held.room;
  there : IfSome (g.X.Reactor.told l.reactor) (λ outside. l.stream < length outside.streams);
  told : ChangesOne l.stream (g.X.Reactor.told l.fn.reactor) (g.X.Reactor.told l.reactor);
  asks : (progress_of l.machine).asks ≡ (progress_of l.fn.machine).asks;
  reads : MayRead (length l.fn.buffer) l.held (progress_of l.machine);
  same : IfSome (g.X.Reactor.told l.fn.reactor) (λ _.
      course_of (exchange_at (progress_of l.machine) l.held.bytes (g.X.Reactor.told l.reactor) l.stream)
      ≡ course_of (exchange_at (progress_of l.fn.machine) l.fn.held.bytes (g.X.Reactor.told l.fn.reactor) l.stream));
  gathered : IfSome (g.X.Reactor.told l.reactor) (λ _.
      IsGathered (progress_of l.machine).asks l.held.bytes (told_stream (g.X.Reactor.told l.reactor) l.stream));
}

abbrev pub decreases-rounds : goal.decreases-rounds
decreases-rounds g l = pieces_left (progress_of l.machine) l.held.bytes
