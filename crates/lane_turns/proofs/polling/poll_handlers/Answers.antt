use Rattle.std.proofs.Common.{◌-◌, arith, subst, sym}
use Rattle.std.specs.Prelude.{nat_lt, slice_index, vec_capacity, vec_len}
use Rattle.lane_map.specs.LaneNumbers.{cells_of}
use Rattle.lane_turns.specs.Batons.{HasRoom, LaneView, room_held}
use Rattle.lane_turns.specs.Polling.{RanNext, StoppedNext}
use Rattle.lane_turns.proofs.PollingLemmas.{left_gone, left_room, looked_room, ran_seen, seen_room, standing, stopped_seen}
use Rattle.lane_turns.proofs.RoomLemmas.{ran_room, takes_whole}
use Rattle.lane_turns.proofs.polling.poll_handlers.Goals as goal

pub returns-in_default-clause-room : goal.returns-in_default-clause-room
returns-in_default-clause-room g c =
    looked_room (nat_lt c.state.inside.at.place (slice_index (cells_of c.args.map.now) c.state.inside.at.lane))
    c.state.inside.at.lane c.state.inside.at.place (room_held c.args.hands.now) c.state.inside.pen c.see_next.new.pen
    c.in_default.ensures.seen
    (subst (λ (s : LaneView). HasRoom c.args.hands.now s.pen) (sym c.state.view_is) c.requires.room)

pub returns-then-found-at-clause-came : goal.returns-then-found-at-clause-came
returns-then-found-at-clause-came g c =
    subst (λ (s : LaneView).
    StoppedNext s (standing c.state.inside.at c.load-found.new.self) c.args.hands.now c.args.hands.now) c.state.view_is
    (stopped_seen c.state.inside.at c.in-Some.note c.load-found.result c.state.inside.pen c.load-found.new.self
    c.args.hands.now (c.can_execute.ensures.0 c.if-not-can_execute.false) (λ same. absurd (omega (arith, same, c.if-found-at.true)))
    (left_gone c.state.inside.at.lane c.state.inside.at.place c.in-Some.note c.load-found.result c.state.inside.pen
    c.see_next.new.pen c.load-found.new.self c.in-Some.ensures.seen c.load-found.ensures.gone))

pub returns-then-found-at-clause-room : goal.returns-then-found-at-clause-room
returns-then-found-at-clause-room g c =
    left_room c.state.inside.at.lane c.state.inside.at.place c.in-Some.note c.load-found.result
    (room_held c.args.hands.now) c.state.inside.pen c.load-found.new.self
    (left_gone c.state.inside.at.lane c.state.inside.at.place c.in-Some.note c.load-found.result c.state.inside.pen
    c.see_next.new.pen c.load-found.new.self c.in-Some.ensures.seen c.load-found.ensures.gone)
    (subst (λ (s : LaneView). HasRoom c.args.hands.now s.pen) (sym c.state.view_is) c.requires.room)

pub returns-then-not-can_execute-clause-room : goal.returns-then-not-can_execute-clause-room
returns-then-not-can_execute-clause-room g c =
    seen_room c.state.inside.at.lane c.state.inside.at.place c.in-Some.note (room_held c.args.hands.now)
    c.state.inside.pen c.see_next.new.pen c.in-Some.ensures.seen
    (subst (λ (s : LaneView). HasRoom c.args.hands.now s.pen) (sym c.state.view_is) c.requires.room)

pub execute_noted-pen-requires-clause-room : goal.execute_noted-pen-requires-clause-room
execute_noted-pen-requires-clause-room g c =
    takes_whole c.args.script.now c.parents_come_first.ensures c.args.hands.now c.requires.script c.keeps_inline.ensures
    c.requires.known c.load-found.new.self c.args.made.items (vec_capacity c.args.made - vec_len c.args.made)
    c.in-Some.note.op c.in-Some.note.code c.in-Some.note.size
    (left_room c.state.inside.at.lane c.state.inside.at.place c.in-Some.note c.load-found.result
    (room_held c.args.hands.now) c.state.inside.pen c.load-found.new.self
    (left_gone c.state.inside.at.lane c.state.inside.at.place c.in-Some.note c.load-found.result c.state.inside.pen
    c.see_next.new.pen c.load-found.new.self c.in-Some.ensures.seen c.load-found.ensures.gone)
    (subst (λ (s : LaneView). HasRoom c.args.hands.now s.pen) (sym c.state.view_is) c.requires.room)) c.requires.buffer
    (c.can_execute.ensures.0 c.if-not-can_execute.false)

pub returns-clause-came : goal.returns-clause-came
returns-clause-came g c =
    subst (λ (s : LaneView).
    RanNext g.H.CompletionHandler.marks c.in-Some.note.op c.execute_noted-pen.result.mark s
    (standing c.one_place_on-at.result c.execute_noted-pen.result.pen) c.args.hands.now
    c.execute_noted-pen.new.hands) c.state.view_is
    (ran_seen g.H.CompletionHandler.marks c.execute_noted-pen.result.mark c.state.inside.at c.one_place_on-at.result
    c.in-Some.note c.load-found.result c.state.inside.pen c.see_next.new.pen c.load-found.new.self
    c.execute_noted-pen.result.pen c.args.hands.now c.execute_noted-pen.new.hands c.one_place_on-at.ensures
    c.if-found-at.false c.in-Some.ensures.seen c.load-found.ensures.gone
    c.execute_noted-pen.ensures.executed c.execute_noted-pen.ensures.script)

pub returns-clause-room : goal.returns-clause-room
returns-clause-room g c =
    ran_room g.H.CompletionHandler.marks c.args.script.now c.parents_come_first.ensures c.in-Some.note.op
    c.execute_noted-pen.result.mark (standing c.state.inside.at c.state.inside.pen)
    (standing c.one_place_on-at.result c.execute_noted-pen.result.pen) c.args.hands.now c.execute_noted-pen.new.hands
    c.requires.script c.keeps_inline.ensures c.requires.known
    (ran_seen g.H.CompletionHandler.marks c.execute_noted-pen.result.mark c.state.inside.at c.one_place_on-at.result
    c.in-Some.note c.load-found.result c.state.inside.pen c.see_next.new.pen c.load-found.new.self
    c.execute_noted-pen.result.pen c.args.hands.now c.execute_noted-pen.new.hands c.one_place_on-at.ensures
    c.if-found-at.false c.in-Some.ensures.seen c.load-found.ensures.gone
    c.execute_noted-pen.ensures.executed c.execute_noted-pen.ensures.script)
    (subst (λ (s : LaneView). HasRoom c.args.hands.now s.pen) (sym c.state.view_is) c.requires.room)
