use Rattle.std.proofs.Common.{ℕ, ap, arith, length, map, subst, ◌∙◌}
use Rattle.std.specs.Prelude.{is_some, vec_capacity}
use Rattle.std.proofs.lemmas.List.{length-replicate}
use Rattle.lane_clock.specs.Seats.{SeatsLeft}
use Rattle.reactor_turns.specs.Ahead.{most_turn_events}
use Rattle.lane_map.specs.LaneNumbers.{reactor_lane}
use Rattle.lane_map.proofs.NumberLemmas.{lane_count as lanes_listed}
use Rattle.lane_context.specs.Making.{worker_rooms}
use Rattle.lane_logs.specs.SeatNumbers.{lane_count, opener_seat, worker_count}
use Rattle.lane_turns.specs.Rooms.{AreNewPens, lane_rooms, opener_room, worker_room}
use Rattle.lane_turns.proofs.NewPenLemmas.{pens_new}
use Rattle.lane_context.proofs.StartLemmas.{given_pen, lane_pens_count, left_lanes, left_reactor, left_workers}
use Rattle.lane_context.proofs.making.first_pens.Goals as goal

pub new_pens-lanes-requires-clause-seats : goal.new_pens-lanes-requires-clause-seats
new_pens-lanes-requires-clause-seats c =
    omega (
      arith,
      ap (λ (s : SeatsLeft). s.next) c.requires.seats,
      c.requires.room.lanes.0,
      lane_pens_count c.args.script.now,
      lanes_listed c.args.script.now,
      c.requires.count,
    )

pub new_pens-lanes-requires-clause-room : goal.new_pens-lanes-requires-clause-room
new_pens-lanes-requires-clause-room c =
    omega (arith, c.requires.room.lanes.0, lane_pens_count c.args.script.now, c.requires.room.lane_pens)

pub unreachable-requires : goal.unreachable-requires
unreachable-requires c =
    let left =
    (left_lanes c.args.script.now c.args.seats c.new_pens-lanes.new.seats (length c.args.room.lanes.items)
    c.requires.seats c.new_pens-lanes.ensures.seats
    (c.requires.room.lanes.0 ∙ lane_pens_count c.args.script.now)) in
    absurd (omega (
      arith,
      c.next.ensures.none.0 (ap is_some c.in_default.is),
      ap (λ (s : SeatsLeft). s.next) left,
      ap (λ (s : SeatsLeft). s.clock.plan.seats) left,
      lanes_listed c.args.script.now,
      c.requires.count,
    ))

pub new_pens-workers-requires-clause-seats : goal.new_pens-workers-requires-clause-seats
new_pens-workers-requires-clause-seats c =
    let left =
    (left_reactor c.args.script.now c.args.seats.clock c.new_pens-lanes.new.seats c.next.new.self
    (left_lanes c.args.script.now c.args.seats c.new_pens-lanes.new.seats (length c.args.room.lanes.items)
    c.requires.seats c.new_pens-lanes.ensures.seats
    (c.requires.room.lanes.0 ∙ lane_pens_count c.args.script.now)) c.in-Some.ensures.given) in
    omega (
      arith,
      ap (λ (s : SeatsLeft). s.next) left,
      ap (λ (s : SeatsLeft). s.clock.plan.seats) left,
      c.requires.room.workers.0,
      length-replicate (worker_count c.args.script.now) (worker_room c.args.script.now),
      c.requires.count,
    )

pub new_pens-workers-requires-clause-room : goal.new_pens-workers-requires-clause-room
new_pens-workers-requires-clause-room c =
    omega (
      arith,
      c.requires.room.workers.0,
      length-replicate (worker_count c.args.script.now) (worker_room c.args.script.now),
      c.requires.room.worker_pens,
    )

pub unreachable-requires-in_default-next : goal.unreachable-requires-in_default-next
unreachable-requires-in_default-next c =
    let left =
    (left_workers c.args.script.now c.args.seats.clock c.next.new.self c.new_pens-workers.new.seats
    (length c.args.room.workers.items) (left_reactor c.args.script.now c.args.seats.clock c.new_pens-lanes.new.seats c.next.new.self
    (left_lanes c.args.script.now c.args.seats c.new_pens-lanes.new.seats (length c.args.room.lanes.items)
    c.requires.seats c.new_pens-lanes.ensures.seats
    (c.requires.room.lanes.0 ∙ lane_pens_count c.args.script.now)) c.in-Some.ensures.given) c.new_pens-workers.ensures.seats
    (c.requires.room.workers.0
    ∙ length-replicate (worker_count c.args.script.now) (worker_room c.args.script.now))) in
    absurd (omega (
      arith,
      c.next-2.ensures.none.0 (ap is_some c.in_default-next.is),
      ap (λ (s : SeatsLeft). s.next) left,
      ap (λ (s : SeatsLeft). s.clock.plan.seats) left,
      c.requires.count,
    ))

pub returns-clause-lanes : goal.returns-clause-lanes
returns-clause-lanes c =
    pens_new c.args.seats.clock 0 (lane_rooms c.args.script.now) c.args.room.lanes.items
    c.new_pens-lanes.result.items c.requires.room.lanes
    (subst (λ (n : ℕ).
    AreNewPens c.args.seats.clock n (map vec_capacity c.args.room.lanes.items) c.new_pens-lanes.result.items)
    (ap (λ (s : SeatsLeft). s.next) c.requires.seats) c.new_pens-lanes.ensures.pens)

pub returns-clause-reactor : goal.returns-clause-reactor
returns-clause-reactor c =
    given_pen c.new_pens-lanes.new.seats c.args.seats.clock (reactor_lane c.args.script.now)
    (most_turn_events c.args.script.now) (vec_capacity c.args.room.reactor) c.in-Some.seat c.new_pen-reactor.result
    (left_lanes c.args.script.now c.args.seats c.new_pens-lanes.new.seats (length c.args.room.lanes.items)
    c.requires.seats c.new_pens-lanes.ensures.seats
    (c.requires.room.lanes.0 ∙ lane_pens_count c.args.script.now)) c.in-Some.ensures.some c.new_pen-reactor.ensures c.requires.room.reactor

pub returns-clause-workers : goal.returns-clause-workers
returns-clause-workers c =
    pens_new c.args.seats.clock (lane_count c.args.script.now) (worker_rooms c.args.script.now)
    c.args.room.workers.items c.new_pens-workers.result.items c.requires.room.workers
    (subst (λ (s : SeatsLeft).
    AreNewPens s.clock s.next (map vec_capacity c.args.room.workers.items) c.new_pens-workers.result.items)
    (left_reactor c.args.script.now c.args.seats.clock c.new_pens-lanes.new.seats c.next.new.self
    (left_lanes c.args.script.now c.args.seats c.new_pens-lanes.new.seats (length c.args.room.lanes.items)
    c.requires.seats c.new_pens-lanes.ensures.seats
    (c.requires.room.lanes.0 ∙ lane_pens_count c.args.script.now)) c.in-Some.ensures.given) c.new_pens-workers.ensures.pens)

pub returns-clause-opener : goal.returns-clause-opener
returns-clause-opener c =
    given_pen c.new_pens-workers.new.seats c.args.seats.clock (opener_seat c.args.script.now)
    (opener_room c.args.script.now) (vec_capacity c.args.room.opener) c.in-Some-next.last c.new_pen-opener.result
    (left_workers c.args.script.now c.args.seats.clock c.next.new.self c.new_pens-workers.new.seats
    (length c.args.room.workers.items) (left_reactor c.args.script.now c.args.seats.clock c.new_pens-lanes.new.seats c.next.new.self
    (left_lanes c.args.script.now c.args.seats c.new_pens-lanes.new.seats (length c.args.room.lanes.items)
    c.requires.seats c.new_pens-lanes.ensures.seats
    (c.requires.room.lanes.0 ∙ lane_pens_count c.args.script.now)) c.in-Some.ensures.given) c.new_pens-workers.ensures.seats
    (c.requires.room.workers.0
    ∙ length-replicate (worker_count c.args.script.now) (worker_room c.args.script.now))) c.in-Some-next.ensures.some c.new_pen-opener.ensures c.requires.room.opener
