use Rattle.std.proofs.Common.{subst}
use Rattle.lane_turns.specs.Openers.{HasTakenIn, OpenerView, stand_at}
use Rattle.lane_turns.proofs.OpenerLemmas.{opener_meets}
use Rattle.lane_turns.proofs.OpenerMeetingLemmas.{taken_in}
use Rattle.lane_turns.proofs.opener.Opener.hear.Goals as goal

pub invariant_of-self : goal.invariant_of-self
invariant_of-self g c =
    opener_meets g.N.LaneSession.names.script g.N.LaneSession.clock
    (record { pen = c.self.inside.pen; stand = stand_at c.self.inside.rounds }) c.self.invariant c.split-copy.result c.meet.new.self c.meet.ensures

pub returns-clause-heard : goal.returns-clause-heard
returns-clause-heard g c =
    subst (λ (old : OpenerView).
    HasTakenIn g.N.LaneSession.names.script c.args.other.now.seat old
    (record { pen = c.meet.new.self; stand = stand_at c.self.inside.rounds })) c.self.view_is
    (taken_in g.N.LaneSession.names.script g.N.LaneSession.clock
    (record { pen = c.self.inside.pen; stand = stand_at c.self.inside.rounds }) c.self.invariant c.split-copy.result c.args.other.now.seat c.meet.new.self c.split-copy.ensures.copy
    c.meet.ensures)
