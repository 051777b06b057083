use Rattle.std.proofs.Common.{reverse, take}
use Rattle.run_overlaps.specs.Noting.{HasNoted}
use Rattle.run_overlaps.proofs.noting.notes_of.Given as goal

abbrev pub invariant-loop-line : goal.invariant-loop-line
invariant-loop-line l = HasNoted (reverse (take l.line-index l.lines)) l.watch l.notes.items
