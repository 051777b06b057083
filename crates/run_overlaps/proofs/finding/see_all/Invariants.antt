use Rattle.std.proofs.Common.{[], reverse, take}
use Rattle.run_overlaps.specs.Guarding.{HasSeen}
use Rattle.run_overlaps.proofs.finding.see_all.Given as goal

abbrev pub invariant-loop-line : goal.invariant-loop-line
invariant-loop-line l = HasSeen l.guards l.joins [] l.fn.watch → HasSeen l.guards l.joins (reverse (take l.line-index l.lines)) l.watch
