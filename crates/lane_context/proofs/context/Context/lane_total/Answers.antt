use Rattle.std.proofs.Common.{◌≡◌, ap, sym, ◌∙◌}
use Rattle.turn_table.specs.Seated.{Lanes}
use Rattle.lane_logs.specs.SeatNumbers.{lane_count}
use Rattle.lane_context.proofs.context.Context.lane_total.Goals as goal

pub returns-clause-lanes : goal.returns-clause-lanes
returns-clause-lanes g c =
    c.lanes.ensures ∙ ap lane_count c.self.invariant.map ∙ sym c.self.invariant.lanes
    ∙ ap (λ (l : Lanes). l.lanes) c.self.view_is

pub returns-clause-script : goal.returns-clause-script
returns-clause-script g c = c.lanes.ensures ∙ ap lane_count c.self.invariant.map
