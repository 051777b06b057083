use Rattle.std.proofs.Common.{ap, arith, sym, ◌∙◌}
use Rattle.std.proofs.lemmas.List.{get_or_read}
use Rattle.io_sockets.specs.Turns.{flag, unlisted}
use Rattle.io_sockets.proofs.TurnLemmas.{room_for, turn_more}
use Rattle.io_sockets.proofs.turns.Turns.list.Goals as goal

pub push_back_reserved-requires : goal.push_back_reserved-requires
push_back_reserved-requires c =
    let within = rw (← c.self.view_is) at c.requires in
    let read = get_or_read c.self.inside.listed.items c.args.turn.place c.index-listed.result.now within c.index-listed.ensures unlisted in
    let isnt = ap (flag c.args.turn.wait) (sym read) ∙ sym c.is_flagged.ensures ∙ c.if-is_flagged.false in
    let room = room_for _ _ c.args.turn c.self.invariant within isnt in
    omega (arith, room)

pub invariant_of-self : goal.invariant_of-self
invariant_of-self c =
    let within = rw (← c.self.view_is) at c.requires in
    let read = get_or_read c.self.inside.listed.items c.args.turn.place c.index-listed.result.now within c.index-listed.ensures unlisted in
    let isnt = ap (flag c.args.turn.wait) (sym read) ∙ sym c.is_flagged.ensures ∙ c.if-is_flagged.false in
    rw (c.push_back_reserved.ensures.items, c.push_back_reserved.ensures.capacity, c.flagged.ensures, read)
    (turn_more _ _ c.args.turn c.self.invariant within isnt)
