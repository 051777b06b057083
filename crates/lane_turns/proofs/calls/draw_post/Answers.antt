use Rattle.std.proofs.Common.{◌<◌, ◌∙◌, ap, arith, length, subst, sym}
use Rattle.lane_map.specs.LaneNumbers.{asked_lane, cells_of}
use Rattle.lane_turns.proofs.CallLemmas.{post_called}
use Rattle.lane_turns.proofs.PenLemmas.{after_draw}
use Rattle.lane_turns.proofs.calls.draw_post.Goals as goal

pub allot-requires-clause-lane : goal.allot-requires-clause-lane
allot-requires-clause-lane c =
    subst (λ lane. lane < length (cells_of c.args.script.now))
    (sym (c.asked-lane.ensures ∙ ap (λ script. asked_lane script c.args.act) c.requires.map))
    (c.requires.fits.lanes c.args.act c.requires.known)

pub allot-requires-clause-room : goal.allot-requires-clause-room
allot-requires-clause-room c =
    after_draw _ _ c.draw_call.result 1 1 0 c.args.pen.now c.draw_call.new.self c.draw_call.ensures c.requires.room (omega arith)

pub returns : goal.returns
returns c =
    post_called c.args.script.now c.args.act c.asked-lane.result c.draw_call.result c.args.pen.now c.draw_call.new.self
    c.allot.new.self (c.asked-lane.ensures ∙ ap (λ script. asked_lane script c.args.act) c.requires.map) c.requires.going
    c.requires.outside c.draw_call.ensures c.allot.ensures
