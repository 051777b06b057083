use Rattle.std.proofs.Common.{ap, subst, ◌∙◌}
use Rattle.lane_clock.specs.Seats.{ClockId, SeatsLeft}
use Rattle.lane_context.specs.Making.{worker_rooms}
use Rattle.lane_logs.specs.SeatNumbers.{lane_count}
use Rattle.lane_turns.specs.Rooms.{AreNewPens, lane_rooms}
use Rattle.lane_context.proofs.beginning.make_session.Goals as goal

pub begin-made-requires-clause-lane_pens : goal.begin-made-requires-clause-lane_pens
begin-made-requires-clause-lane_pens g c =
    subst (λ (clock : ClockId).
    AreNewPens clock 0 (lane_rooms c.args.script.now) c.first_pens-pens.result.lanes.items)
    (ap (λ (s : SeatsLeft). s.clock) c.parts.invariant ∙ c.parts.view_is ∙ c.requires.clock)
    c.first_pens-pens.ensures.lanes

pub begin-made-requires-clause-worker_pens : goal.begin-made-requires-clause-worker_pens
begin-made-requires-clause-worker_pens g c =
    subst (λ (clock : ClockId).
    AreNewPens clock (lane_count c.args.script.now) (worker_rooms c.args.script.now)
    c.first_pens-pens.result.workers.items)
    (ap (λ (s : SeatsLeft). s.clock) c.parts.invariant ∙ c.parts.view_is ∙ c.requires.clock)
    c.first_pens-pens.ensures.workers
