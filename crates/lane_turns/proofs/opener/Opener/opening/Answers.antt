use Rattle.std.proofs.Common.{subst, sym}
use Rattle.std.specs.Prelude.{◌≡◌, []}
use Rattle.session_script.specs.Script.{opening_of}
use Rattle.lane_logs.specs.Calls.{called_each}
use Rattle.lane_logs.specs.Stand.{first_stand}
use Rattle.lane_turns.specs.Openers.{OpenerView, stand_at}
use Rattle.lane_turns.specs.Pens.{HasDrawnCalls}
use Rattle.lane_turns.proofs.OpenerEventLemmas.{opened_after}
use Rattle.lane_turns.proofs.opener.Opener.opening.Goals as goal

pub invariant_of-self : goal.invariant_of-self
invariant_of-self g c =
    opened_after g.N.LaneSession.names.script g.N.LaneSession.clock
    (record { pen = c.self.inside.pen; stand = stand_at c.self.inside.rounds }) c.draw_opening.new.pen c.self.invariant
    (subst (λ (old : OpenerView). old.pen.log ≡ []) (sym c.self.view_is) c.requires.none)
    (subst (λ (old : OpenerView). old.stand ≡ first_stand g.N.LaneSession.names.script) (sym c.self.view_is)
    c.requires.first)
    (subst (λ script. HasDrawnCalls script (called_each (opening_of script)) c.self.inside.pen c.draw_opening.new.pen)
    c.requires.script c.draw_opening.ensures)
