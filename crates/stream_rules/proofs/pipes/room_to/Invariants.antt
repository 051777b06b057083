use Rattle.std.proofs.Common.{◌≡◌, take}
use Rattle.stream_rules.specs.Pipes.{room_to}
use Rattle.stream_rules.proofs.pipes.room_to.Given as goal

abbrev pub invariant-loop-line : goal.invariant-loop-line
invariant-loop-line l = l.room ≡ room_to l.stream (take l.line-index l.lines)
