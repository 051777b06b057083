use Rattle.std.proofs.Common.{◌≡◌, ◌≤◌, true, ap, refl, subst, sym, ◌∙◌, arith}
use Rattle.std.specs.Prelude.{IfNone, IfSome, vec_capacity}
use Rattle.lane_logs.specs.SeatNumbers.{lane_count}
use Rattle.lane_logs.specs.Stand.{Stand, is_round_open}
use Rattle.lane_turns.specs.LaneValues.{terms, tries}
use Rattle.lane_turns.specs.OwnRuns.{HasRunInVain}
use Rattle.lane_context.specs.RoundEnds.{HasEndedRound}
use Rattle.lane_turns.proofs.AllWorkersLemmas.{counted}
use Rattle.lane_context.proofs.RoundEndLemmas.{ended_behind, more_in_vain, none_in_vain}
use Rattle.lane_context.proofs.context.Context.close_by_runs.Goals as goal

pub loop-init : goal.loop-init
loop-init g c =
    let t =
    tries (terms g.N.LaneSession.names g.H.CompletionHandler.marks g.X.Reactor.state g.X.Reactor.told g.X.Reactor.faults
    g.N.LaneSession.faults g.N.LaneSession.clock) 16 in
    record {
      vain =
          none_in_vain t c.args.self.now.lanes c.args.opener.now c.args.workers.now
          (counted g.N.LaneSession.names.script c.args.workers.now c.requires.rows) c.requires.faultless;
      rows = c.requires.rows;
      free = c.requires.free;
      cuts = c.requires.cuts;
      seat = c.requires.seat;
      none = c.requires.none;
      room = refl;
    }

pub close_turn-end-requires-clause-round : goal.close_turn-end-requires-clause-round
close_turn-end-requires-clause-round g c =
    ap (λ (stand : Stand). is_round_open g.N.LaneSession.names.script stand) c.loop.invariant.vain.on.stand
    ∙ c.requires.round

pub close_turn-end-requires-clause-room : goal.close_turn-end-requires-clause-room
close_turn-end-requires-clause-room g c =
    subst (λ n. lane_count g.N.LaneSession.names.script ≤ n) (sym c.loop.invariant.room) c.requires.room

pub loop-preserved : goal.loop-preserved
loop-preserved g c =
    let t =
    tries (terms g.N.LaneSession.names g.H.CompletionHandler.marks g.X.Reactor.state g.X.Reactor.told g.X.Reactor.faults
    g.N.LaneSession.faults g.N.LaneSession.clock) 16 in
    record {
      vain =
          more_in_vain t c.args.self.now.lanes c.args.opener.now c.loop.opener c.close_turn-end.new.opener
          c.args.workers.now c.loop.workers c.close_turn-end.new.workers c.loop.invariant.vain
          (subst (λ o.
          IfNone o
          (HasRunInVain c.loop.opener c.close_turn-end.new.opener c.loop.workers c.close_turn-end.new.workers))
          c.in_default.is c.close_turn-end.ensures.vain);
      rows = c.close_turn-end.ensures.rows;
      free = c.close_turn-end.ensures.free;
      cuts = c.close_turn-end.ensures.cuts;
      seat = c.close_turn-end.ensures.seat;
      none = c.close_turn-end.ensures.none;
      room = c.close_turn-end.ensures.room ∙ c.loop.invariant.room;
    }

pub returns-in-Some-end-clause-ended : goal.returns-in-Some-end-clause-ended
returns-in-Some-end-clause-ended g c =
    let t =
    tries (terms g.N.LaneSession.names g.H.CompletionHandler.marks g.X.Reactor.state g.X.Reactor.told g.X.Reactor.faults
    g.N.LaneSession.faults g.N.LaneSession.clock) 16 in
    ended_behind t c.args.self.now.lanes c.in-Some-end.end c.args.opener.now c.loop.opener c.close_turn-end.new.opener
    c.args.workers.now c.loop.workers c.close_turn-end.new.workers c.loop.invariant.vain
    (subst (λ o.
    IfSome o (λ now.
    HasEndedRound t c.args.self.now.lanes now c.loop.opener c.close_turn-end.new.opener c.loop.workers
    c.close_turn-end.new.workers)) c.in-Some-end.is c.close_turn-end.ensures.ended)

pub returns-in-Some-end-clause-room : goal.returns-in-Some-end-clause-room
returns-in-Some-end-clause-room g c = c.close_turn-end.ensures.room ∙ c.loop.invariant.room
