use Rattle.std.proofs.Common.{arith}
use Rattle.lane_turns.proofs.CallLemmas.{stop_called}
use Rattle.lane_turns.proofs.PenLemmas.{after_draw}
use Rattle.lane_turns.proofs.calls.draw_stop.Goals as goal

pub draw-requires-clause-room : goal.draw-requires-clause-room
draw-requires-clause-room c =
    after_draw _ _ c.draw_call.result 2 0 1 c.args.pen.now c.draw_call.new.self c.draw_call.ensures c.requires.room (omega arith)

pub returns : goal.returns
returns c =
    stop_called c.args.script.now c.args.act c.draw_call.result c.draw.result c.args.pen.now c.draw_call.new.self
    c.draw.new.self c.requires.stops c.draw_call.ensures c.draw.ensures
