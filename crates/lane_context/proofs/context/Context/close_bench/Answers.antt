use Rattle.std.proofs.Common.{subst, sym, ◌∙◌}
use Rattle.lane_turns.specs.AllWorkers.{clock_seat}
use Rattle.lane_turns.specs.Benches.{AreWorkers}
use Rattle.lane_turns.specs.Gathering.{StandsForFirst}
use Rattle.lane_turns.specs.LaneValues.{terms, tries}
use Rattle.lane_context.specs.RoundEnds.{HasEndedRound}
use Rattle.lane_turns.proofs.AllWorkersLemmas.{clocks_sat, counted, lasts_sat, logs_sat, rounds_sat, rows_gathered, rows_sat, seated_sat}
use Rattle.lane_context.proofs.LastEndLemmas.{gathered_free}
use Rattle.lane_context.proofs.RoundEndLemmas.{ended_from, ended_still}
use Rattle.lane_context.proofs.context.Context.close_bench.Goals as goal

pub close_gathered-end-requires-clause-rows : goal.close_gathered-end-requires-clause-rows
close_gathered-end-requires-clause-rows g c =
    subst (λ ws. AreWorkers clock_seat g.N.LaneSession.names.script ws) (sym c.gather_seats-seat.ensures.left)
    (rows_gathered g.N.LaneSession.names.script c.args.workers.now c.requires.ready.rows)

pub close_gathered-end-requires-clause-free : goal.close_gathered-end-requires-clause-free
close_gathered-end-requires-clause-free g c =
    gathered_free c.args.workers.now c.gather_seats-seat.new.workers c.gather_seats-seat.ensures.left

pub part_seats-requires-clause-some : goal.part_seats-requires-clause-some
part_seats-requires-clause-some g c =
    counted g.N.LaneSession.names.script c.close_gathered-end.new.workers c.close_gathered-end.ensures.rows

pub returns-clause-ended : goal.returns-clause-ended
returns-clause-ended g c =
    let t =
    tries (terms g.N.LaneSession.names g.H.CompletionHandler.marks g.X.Reactor.state g.X.Reactor.told g.X.Reactor.faults
    g.N.LaneSession.faults g.N.LaneSession.clock) 16 in
    let now = c.close_gathered-end.result.end in
    ended_from t c.args.self.now.lanes now c.args.opener.now c.close_gathered-end.new.opener c.args.workers.now
    c.part_seats.new.workers
    (subst (λ ws.
    HasEndedRound t c.args.self.now.lanes now c.args.opener.now c.close_gathered-end.new.opener ws
    c.part_seats.new.workers) c.gather_seats-seat.ensures.left
    (ended_still t c.args.self.now.lanes now c.args.opener.now c.close_gathered-end.new.opener
    c.gather_seats-seat.new.workers c.close_gathered-end.new.workers c.part_seats.new.workers
    c.close_gathered-end.ensures.ended
    (lasts_sat c.args.self.now c.close_gathered-end.new.workers c.part_seats.new.workers c.part_seats.auto.workers
    c.part_seats.ensures)
    (logs_sat c.args.self.now c.close_gathered-end.new.workers c.part_seats.new.workers c.part_seats.auto.workers
    c.part_seats.ensures)
    (clocks_sat c.args.self.now c.close_gathered-end.new.workers c.part_seats.new.workers c.part_seats.auto.workers
    c.part_seats.ensures)
    (rounds_sat c.args.self.now c.close_gathered-end.new.workers c.part_seats.new.workers c.part_seats.auto.workers
    c.part_seats.ensures g.N.LaneSession.names.script c.close_gathered-end.new.opener.stand
    c.close_gathered-end.ensures.ended.rounds)))

pub returns-clause-ready : goal.returns-clause-ready
returns-clause-ready g c =
    record {
      rows =
          rows_sat c.args.self.now c.close_gathered-end.new.workers c.part_seats.new.workers c.part_seats.auto.workers
          c.part_seats.ensures g.N.LaneSession.names.script c.close_gathered-end.ensures.rows;
      seats =
          seated_sat c.args.self.now c.close_gathered-end.new.workers c.part_seats.new.workers c.part_seats.auto.workers
          c.part_seats.ensures
          (c.close_gathered-end.ensures.rows.size ∙ sym c.requires.ready.rows.size ∙ c.requires.ready.seats.size);
    }

pub close_gathered-end-requires-clause-seat : goal.close_gathered-end-requires-clause-seat
close_gathered-end-requires-clause-seat g c =
    subst (λ n. StandsForFirst c.args.self.now n c.gather_seats-seat.result) c.requires.ready.seats.size
    c.gather_seats-seat.ensures.seat

pub part_seats-requires-clause-seat : goal.part_seats-requires-clause-seat
part_seats-requires-clause-seat g c =
    subst (λ n. StandsForFirst c.args.self.now n c.close_gathered-end.result.seat)
    (sym (c.close_gathered-end.ensures.rows.size ∙ sym c.requires.ready.rows.size ∙ c.requires.ready.seats.size))
    c.close_gathered-end.ensures.seat
