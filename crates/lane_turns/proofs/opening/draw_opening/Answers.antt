use Rattle.std.proofs.Common.{◌∙◌, arith}
use Rattle.std.specs.Prelude.{get_or}
use Rattle.lane_turns.proofs.CallLemmas.{back_called}
use Rattle.lane_turns.proofs.OpeningLemmas.{all_called, back_room, next_called, next_known, next_room, none_called, opening_room}
use Rattle.lane_turns.proofs.PenLemmas.{gone_clock, may_go_less}
use Rattle.lane_turns.proofs.RememberingLemmas.{gone_number}
use Rattle.lane_turns.proofs.opening.draw_opening.Goals as goal

pub loop-act-init : goal.loop-act-init
loop-act-init c = none_called c.args.script.now c.args.pen.now

pub draw_call-requires-clause-clock : goal.draw_call-requires-clause-clock
draw_call-requires-clause-clock c =
    gone_clock _ c.args.pen.now c.loop-act.pen c.loop-act.invariant.gone ∙ c.requires.clock

pub draw_call-requires-clause-known : goal.draw_call-requires-clause-known
draw_call-requires-clause-known c =
    next_known c.args.script.now c.opening-acts.result.now c.loop-act.act-index c.opening-acts.ensures
    c.loop-act-test.true

pub draw_call-requires-clause-opener : goal.draw_call-requires-clause-opener
draw_call-requires-clause-opener c none =
    gone_number _ c.args.pen.now c.loop-act.pen c.loop-act.invariant.gone ∙ c.requires.opener

pub draw_call-requires-clause-room : goal.draw_call-requires-clause-room
draw_call-requires-clause-room c =
    may_go_less c.loop-act.pen _ 1 _ 1
    (next_room c.args.script.now c.opening-acts.result.now c.loop-act.act-index c.args.pen.now c.loop-act.pen
    c.loop-act.invariant c.loop-act-test.true
    (opening_room c.args.script.now c.opening-acts.result.now c.args.pen.now c.opening-acts.ensures c.requires.room))
    (omega arith) (omega arith)

pub draw-requires-clause-clock : goal.draw-requires-clause-clock
draw-requires-clause-clock c =
    gone_clock _ c.loop-act.pen c.draw_call.new.pen c.draw_call.ensures.gone
    ∙ gone_clock _ c.args.pen.now c.loop-act.pen c.loop-act.invariant.gone ∙ c.requires.clock

pub draw-requires-clause-room : goal.draw-requires-clause-room
draw-requires-clause-room c =
    back_room c.args.script.now c.opening-acts.result.now c.loop-act.act-index c.args.pen.now c.loop-act.pen
    c.loop-act.invariant (get_or c.opening-acts.result.now c.loop-act.act-index 0) c.draw_call.new.pen
    c.draw_call.ensures
    (next_room c.args.script.now c.opening-acts.result.now c.loop-act.act-index c.args.pen.now c.loop-act.pen
    c.loop-act.invariant c.loop-act-test.true
    (opening_room c.args.script.now c.opening-acts.result.now c.args.pen.now c.opening-acts.ensures c.requires.room))

pub loop-act-preserved : goal.loop-act-preserved
loop-act-preserved c =
    next_called c.args.script.now c.opening-acts.result.now c.loop-act.act-index c.args.pen.now c.loop-act.pen
    c.loop-act.invariant c.loop-act-test.true c.draw_call.new.pen c.draw.new.self c.draw_call.ensures
    (back_called c.args.script.now (get_or c.opening-acts.result.now c.loop-act.act-index 0) c.draw.result
    c.draw_call.new.pen c.draw.new.self c.draw.ensures)

pub returns : goal.returns
returns c =
    all_called c.args.script.now c.opening-acts.result.now c.loop-act.act-index c.args.pen.now c.loop-act.pen
    c.opening-acts.ensures c.loop-act-test.false c.loop-act.invariant
