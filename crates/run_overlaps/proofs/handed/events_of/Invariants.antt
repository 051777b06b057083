use Rattle.std.proofs.Common.{reverse, take}
use Rattle.run_overlaps.specs.Handing.{HasSeenEvents}
use Rattle.run_overlaps.proofs.handed.events_of.Given as goal

abbrev pub invariant-loop-line : goal.invariant-loop-line
invariant-loop-line l = HasSeenEvents (reverse (take l.line-index l.lines)) l.watch l.events.items
