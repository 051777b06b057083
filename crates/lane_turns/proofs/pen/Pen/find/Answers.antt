use Rattle.std.proofs.Common.{◌∙◌}
use Rattle.lane_turns.proofs.PenLemmas.{gone_clock}
use Rattle.lane_turns.proofs.ReceiptLemmas.{found_none_yet, has_found, other_more}
use Rattle.lane_turns.proofs.pen.Pen.find.Goals as goal

pub look-held-requires-clause-clock : goal.look-held-requires-clause-clock
look-held-requires-clause-clock c =
    gone_clock _ c.args.self.now c.loop-place.self c.loop-place.invariant.others.gone ∙ c.requires.clock

pub loop-place-init : goal.loop-place-init
loop-place-init c = found_none_yet c.args.lane c.args.op c.args.self.now

pub loop-place-preserved : goal.loop-place-preserved
loop-place-preserved c =
    other_more c.args.lane c.loop-place.place c.args.op c.look-held.result c.args.self.now c.loop-place.self
    c.look-held.new.self c.loop-place.invariant c.look-held.ensures c.in_default.ensures.other

pub returns-in-Some : goal.returns-in-Some
returns-in-Some c =
    has_found c.args.lane c.loop-place.place c.args.op c.look-held.result c.in-Some.receipt c.args.self.now
    c.loop-place.self c.look-held.new.self c.loop-place.invariant c.look-held.ensures c.in-Some.ensures.note
    c.in-Some.ensures.place c.in-Some.ensures.op
