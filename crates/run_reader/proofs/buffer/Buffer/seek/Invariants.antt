use Rattle.std.proofs.Common.{◌≡◌, ◌-◌, length}
use Rattle.run_reader.specs.Buffer.{KeepsText, most_held}
use Rattle.run_reader.proofs.buffer.Buffer.seek.Given as goal

abbrev pub invariant-loop-at : goal.invariant-loop-at
invariant-loop-at g l = record {
  keeps : KeepsText l.fn.self.bytes (g.S.Source.left l.fn.source) l.self.bytes (g.S.Source.left l.source);
  faults : g.S.Source.faults l.source ≡ g.S.Source.faults l.fn.source;
}

abbrev pub decreases-loop-at : goal.decreases-loop-at
decreases-loop-at g l = most_held - length l.self.bytes
