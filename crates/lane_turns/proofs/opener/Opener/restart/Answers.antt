use Rattle.std.proofs.Common.{subst, sym}
use Rattle.std.specs.Prelude.{◌≡◌, true}
use Rattle.lane_map.specs.LaneNumbers.{reactor_lane}
use Rattle.lane_logs.specs.Cuts.{NoneStops}
use Rattle.lane_logs.specs.Knowing.{lists_of}
use Rattle.lane_logs.specs.Stand.{wants_restart}
use Rattle.lane_turns.specs.Openers.{OpenerView, stand_at}
use Rattle.lane_turns.proofs.OpenerEventLemmas.{restarted_after}
use Rattle.lane_turns.proofs.opener.Opener.restart.Goals as goal

pub invariant_of-self : goal.invariant_of-self
invariant_of-self g c =
    restarted_after g.N.LaneSession.names.script g.N.LaneSession.clock
    (record { pen = c.self.inside.pen; stand = stand_at c.self.inside.rounds }) c.draw-found.new.self c.self.invariant c.draw-found.result
    (subst (λ (old : OpenerView). old.stand.opening ≡ 0) (sym c.self.view_is) c.requires.opened)
    (subst (λ (old : OpenerView). wants_restart g.N.LaneSession.names.script old.stand ≡ true) (sym c.self.view_is)
    c.requires.wanted)
    (subst (λ (old : OpenerView).
    NoneStops (lists_of old.pen.seat (reactor_lane g.N.LaneSession.names.script))) (sym c.self.view_is)
    c.requires.working) c.draw-found.ensures
