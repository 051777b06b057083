use Rattle.std.proofs.Common.{take}
use Rattle.lane_logs.specs.Calls.{called_each}
use Rattle.lane_turns.specs.Pens.{HasDrawnCalls}
use Rattle.lane_turns.proofs.opening.draw_opening.Given as goal

abbrev pub invariant-loop-act : goal.invariant-loop-act
invariant-loop-act l = HasDrawnCalls l.script (called_each (take l.act-index l.acts)) l.fn.pen l.pen
