use Rattle.std.proofs.Common.{refl, subst}
use Rattle.lane_turns.specs.Openers.{OpenerView, stand_at}
use Rattle.lane_turns.specs.TakingIn.{HasJoined}
use Rattle.lane_turns.proofs.OpenerLemmas.{opener_meets}
use Rattle.lane_turns.proofs.opener.Opener.take_in.Goals as goal

pub invariant_of-self : goal.invariant_of-self
invariant_of-self g c =
    opener_meets g.N.LaneSession.names.script g.N.LaneSession.clock
    (record { pen = c.self.inside.pen; stand = stand_at c.self.inside.rounds }) c.self.invariant c.args.other c.join.new.self
    c.join.ensures.met

pub returns : goal.returns
returns g c =
    subst (λ (old : OpenerView).
    HasJoined g.N.LaneSession.names.script c.args.other old
    (record { pen = c.join.new.self; stand = stand_at c.self.inside.rounds })) c.self.view_is
    (record {
      number = c.self.invariant.number;
      owns = c.self.invariant.owns;
      met = c.join.ensures.met;
      stand = refl;
      takes = c.join.ensures.takes;
      theirs = c.join.ensures.theirs;
    })
