use Rattle.std.proofs.Common.{[], refl, subst}
use Rattle.lane_turns.specs.OpenerEvents.{HasReadAlone}
use Rattle.lane_turns.specs.Openers.{OpenerView, stand_at}
use Rattle.lane_turns.proofs.OpenerEventLemmas.{waited_after}
use Rattle.lane_turns.proofs.opener.Opener.read.Goals as goal

pub invariant_of-self : goal.invariant_of-self
invariant_of-self g c =
    waited_after g.N.LaneSession.names.script g.N.LaneSession.clock
    (record { pen = c.self.inside.pen; stand = stand_at c.self.inside.rounds }) c.load-found.new.self c.self.invariant
    c.load-found.result [] c.load-found.ensures.gone

pub returns : goal.returns
returns g c =
    let at = stand_at c.self.inside.rounds in
    subst (λ (old : OpenerView). HasReadAlone old (record { pen = c.load-found.new.self; stand = at })) c.self.view_is
    (record { found = c.load-found.result; gone = c.load-found.ensures.gone; stand = refl })
