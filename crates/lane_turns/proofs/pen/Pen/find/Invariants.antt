use Rattle.lane_turns.specs.Pens.{HasGone}
use Rattle.lane_turns.specs.Receipts.{HasFoundNone}
use Rattle.lane_turns.proofs.pen.Pen.find.Given as goal

abbrev pub invariant-loop-place : goal.invariant-loop-place
invariant-loop-place l = HasFoundNone HasGone l.lane l.place l.op l.fn.self l.self
