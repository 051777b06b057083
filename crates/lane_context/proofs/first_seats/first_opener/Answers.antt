use Rattle.std.proofs.Common.{◌≤◌, ap, subst, sym, ◌∙◌}
use Rattle.session_script.specs.Script.{ScriptModel}
use Rattle.lane_clock.specs.Steps.{most_draws}
use Rattle.lane_logs.specs.SeatNumbers.{opener_seat}
use Rattle.lane_logs.specs.Stand.{Stand, first_stand}
use Rattle.lane_turns.specs.Openers.{IsOpener}
use Rattle.lane_turns.specs.Rooms.{IsNewPen, opener_room}
use Rattle.lane_context.proofs.FirstLemmas.{opener_begins}
use Rattle.lane_context.proofs.first_seats.first_opener.Goals as goal

pub invariant_of-result : goal.invariant_of-result
invariant_of-result g c =
    let script = g.N.LaneSession.names.script in
    let clock = g.N.LaneSession.clock in
    subst (λ (stand : Stand). IsOpener script clock (record { pen = c.args.pen; stand = stand }))
    (sym (c.requires.rounds ∙ ap first_stand c.requires.script))
    (opener_begins script clock c.args.pen
    (subst (λ (script : ScriptModel). IsNewPen clock (opener_seat script) (opener_room script) c.args.pen)
    c.requires.script c.requires.pen)
    (subst (λ (script : ScriptModel). opener_room script ≤ most_draws) c.requires.script
    c.rooms_fit.ensures.opener))
