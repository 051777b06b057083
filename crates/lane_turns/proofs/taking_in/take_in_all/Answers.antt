use Rattle.std.proofs.Common.{◌≡◌, ◌∷◌, ◌++◌, [], List, arith, map, ap, refl, subst, ◌∙◌}
use Rattle.std.specs.Vec.Iter.{into_iter_items}
use Rattle.std.proofs.lemmas.List.{length-map, map-append}
use Rattle.lane_clock.specs.Seats.{SeatView}
use Rattle.lane_logs.specs.declared.log.LogEntry.{LogEntry}
use Rattle.lane_turns.specs.Pens.{PenView}
use Rattle.lane_turns.specs.TakingIn.{HasJoined}
use Rattle.lane_turns.proofs.TakingInLemmas.{next_fits, next_holds, taking_more, taking_none}
use Rattle.lane_turns.proofs.taking_in.take_in_all.Goals as goal
use Rattle.lane_turns.proofs.taking_in.take_in_all.Goals.{In-Some}

pub loop-pen-init : goal.loop-pen-init
loop-pen-init g c =
    record {
      taking =
          taking_none g.N.LaneSession.names.script c.args.pens.items (into_iter_items c.into_iter-rest.result)
          c.args.opener.now (map (λ log. log.items) c.args.logs.items) c.into_iter-rest.ensures.rest;
      capacity = refl;
    }

pub take_in-requires-clause-same : goal.take_in-requires-clause-same
take_in-requires-clause-same g c =
    ap (λ (seat : SeatView). seat.clock) c.into_parts-seat.ensures.seat
    ∙ next_holds (λ (pen : PenView). pen.seat.clock ≡ g.N.LaneSession.clock) g.N.LaneSession.names.script
    c.args.pens.items (into_iter_items c.loop-pen.rest) (into_iter_items c.next.new.self) c.args.opener.now
    c.loop-pen.opener (map (λ log. log.items) c.args.logs.items) (map (λ log. log.items) c.loop-pen.all.items)
    c.in-Some.pen c.requires.clocks c.in-Some.ensures.items c.loop-pen.invariant.taking

pub push_reserved-requires : goal.push_reserved-requires
push_reserved-requires g c =
    omega (
      arith,
      next_fits g.N.LaneSession.names.script c.args.pens.items (into_iter_items c.loop-pen.rest)
          (into_iter_items c.next.new.self) c.args.opener.now c.loop-pen.opener (map (λ log. log.items) c.args.logs.items)
          (map (λ log. log.items) c.loop-pen.all.items) c.in-Some.pen c.in-Some.ensures.items c.loop-pen.invariant.taking,
      length-map c.args.logs.items (λ log. log.items),
      length-map c.loop-pen.all.items (λ log. log.items),
      c.requires.room,
      c.loop-pen.invariant.capacity,
      c.args.logs.ok,
      c.loop-pen.all.ok,
    )

pub loop-pen-preserved : goal.loop-pen-preserved
loop-pen-preserved g c =
    record {
      taking =
          taking_more g.N.LaneSession.names.script c.args.pens.items (into_iter_items c.loop-pen.rest)
          (into_iter_items c.next.new.self) c.args.opener.now c.loop-pen.opener c.take_in.new.self
          (map (λ log. log.items) c.args.logs.items) (map (λ log. log.items) c.loop-pen.all.items)
          (map (λ log. log.items) c.push_reserved.new.self.items) c.in-Some.pen c.requires.apart c.requires.owns
          c.in-Some.ensures.items
          (subst (λ (seat : SeatView).
          HasJoined g.N.LaneSession.names.script seat c.loop-pen.opener c.take_in.new.self) c.into_parts-seat.ensures.seat
          c.take_in.ensures)
          (ap (map (λ log. log.items)) c.push_reserved.ensures.items
          ∙ map-append (λ log. log.items) c.loop-pen.all.items (c.into_parts-seat.result.1 ∷ [])
          ∙ ap (λ (log : List LogEntry). map (λ log. log.items) c.loop-pen.all.items ++ log ∷ [])
          c.into_parts-seat.ensures.log)
          c.loop-pen.invariant.taking;
      capacity = c.push_reserved.ensures.capacity ∙ c.loop-pen.invariant.capacity;
    }
