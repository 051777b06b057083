use Rattle.std.proofs.Common.{subst, sym}
use Rattle.lane_turns.specs.Meeting.{PenHasMet}
use Rattle.lane_turns.specs.Openers.{HaveMet, OpenerView, stand_at}
use Rattle.lane_turns.specs.Pens.{PenView}
use Rattle.lane_turns.proofs.OpenerLemmas.{opener_meets}
use Rattle.lane_turns.proofs.OpenerMeetingLemmas.{both_met}
use Rattle.lane_turns.proofs.opener.Opener.meet.Goals as goal

pub invariant_of-self : goal.invariant_of-self
invariant_of-self g c =
    opener_meets g.N.LaneSession.names.script g.N.LaneSession.clock
    (record { pen = c.self.inside.pen; stand = stand_at c.self.inside.rounds }) c.self.invariant c.split-back.result
    c.meet-2.new.self
    (subst (λ (pen : PenView). PenHasMet c.split-back.result pen c.meet-2.new.self) c.split-copy.ensures.same
    c.meet-2.ensures)

pub returns-clause-met : goal.returns-clause-met
returns-clause-met g c =
    subst (λ (other : PenView).
    HaveMet g.N.LaneSession.names.script c.args.self.now
    (record { pen = c.meet-2.new.self; stand = stand_at c.self.inside.rounds }) c.args.other.now.seat other.seat)
    (sym c.split-back.ensures.same)
    (subst (λ (old : OpenerView).
    HaveMet g.N.LaneSession.names.script old
    (record { pen = c.meet-2.new.self; stand = stand_at c.self.inside.rounds }) c.args.other.now.seat
    c.meet.new.self.seat) c.self.view_is
    (both_met g.N.LaneSession.names.script g.N.LaneSession.clock
    (record { pen = c.self.inside.pen; stand = stand_at c.self.inside.rounds }) c.self.invariant c.split-copy.result
    c.split-back.result c.args.other.now c.meet.new.self c.meet-2.new.self c.split-copy.ensures.copy c.meet.ensures
    c.split-back.ensures.copy
    (subst (λ (pen : PenView). PenHasMet c.split-back.result pen c.meet-2.new.self) c.split-copy.ensures.same
    c.meet-2.ensures)))
