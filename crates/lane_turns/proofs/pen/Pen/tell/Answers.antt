use Rattle.std.proofs.Common.{◌∙◌}
use Rattle.lane_turns.proofs.PenLemmas.{gone_clock}
use Rattle.lane_turns.proofs.TellingLemmas.{placed_room, still_drawn, still_fresh, told_beyond, told_within}
use Rattle.lane_turns.proofs.pen.Pen.tell.Goals as goal

pub draw-requires-clause-clock : goal.draw-requires-clause-clock
draw-requires-clause-clock c =
    gone_clock _ c.args.self.now c.place.new.self (c.in-Some.ensures.within c.args.note.op).gone ∙ c.requires.clock

pub draw-requires-clause-room : goal.draw-requires-clause-room
draw-requires-clause-room c =
    placed_room c.args.note.op c.args.lane c.in-Some.place c.args.self.now c.place.new.self
    (c.in-Some.ensures.within c.args.note.op).gone c.requires.room

pub put-requires-clause-clock : goal.put-requires-clause-clock
put-requires-clause-clock c =
    gone_clock _ c.place.new.self c.draw.new.self c.draw.ensures
    ∙ gone_clock _ c.args.self.now c.place.new.self (c.in-Some.ensures.within c.args.note.op).gone ∙ c.requires.clock

pub put-requires-clause-cell : goal.put-requires-clause-cell
put-requires-clause-cell c = (c.in-Some.ensures.within c.args.note.op).within

pub put-requires-clause-drawn : goal.put-requires-clause-drawn
put-requires-clause-drawn c =
    still_drawn c.args.lane c.in-Some.place _ _ _ _ c.draw.result c.draw.ensures.steps
    (c.in-Some.ensures.within c.args.note.op).drawn

pub put-requires-clause-fresh : goal.put-requires-clause-fresh
put-requires-clause-fresh c =
    still_fresh c.args.lane c.in-Some.place _ _ _ _ c.draw.result c.draw.ensures.steps
    (c.in-Some.ensures.within c.args.note.op).fresh

pub draw-requires-in-None-clause-clock : goal.draw-requires-in-None-clause-clock
draw-requires-in-None-clause-clock c =
    gone_clock _ c.args.self.now c.place.new.self (c.in-None.ensures.beyond c.args.note.op).gone ∙ c.requires.clock

pub draw-requires-in-None-clause-room : goal.draw-requires-in-None-clause-room
draw-requires-in-None-clause-room c =
    placed_room c.args.note.op c.args.lane (c.in-None.ensures.beyond c.args.note.op).place c.args.self.now
    c.place.new.self (c.in-None.ensures.beyond c.args.note.op).gone c.requires.room

pub returns-in-Some : goal.returns-in-Some
returns-in-Some c =
    told_within c.args.script.now c.args.clock.now.plan.cells c.args.lane c.args.note c.args.self.now c.place.new.self
    c.draw.new.self c.put.new.self c.requires.cells c.requires.home c.draw.result c.in-Some.place
    (c.in-Some.ensures.within c.args.note.op) c.draw.ensures c.put.ensures

pub returns-in-None : goal.returns-in-None
returns-in-None c =
    told_beyond c.args.script.now c.args.clock.now.plan.cells c.args.lane c.args.note c.args.self.now c.place.new.self
    c.draw-in-None.new.self c.draw-in-None.new.self c.requires.cells c.requires.home c.draw-in-None.result
    (c.in-None.ensures.beyond c.args.note.op) c.draw-in-None.ensures
