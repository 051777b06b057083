use Rattle.std.proofs.Common.{◌≡◌, take}
use Rattle.stream_rules.specs.Pipes.{fed_to}
use Rattle.stream_rules.proofs.pipes.bytes_to.Given as goal

abbrev pub invariant-loop-line : goal.invariant-loop-line
invariant-loop-line l = l.bytes ≡ fed_to l.stream (take l.line-index l.lines)
