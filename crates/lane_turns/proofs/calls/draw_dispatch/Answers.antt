use Rattle.lane_turns.proofs.CallLemmas.{dispatch_called}
use Rattle.lane_turns.proofs.calls.draw_dispatch.Goals as goal

pub returns : goal.returns
returns c =
    dispatch_called c.args.script.now c.args.act c.draw_call.result c.args.pen.now c.draw_call.new.self c.requires.going
    c.requires.inside c.draw_call.ensures
