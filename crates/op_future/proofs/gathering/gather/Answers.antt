use Rattle.lane_logs.specs.SeatNumbers.{opener_seat}
use Rattle.lane_turns.specs.AtRest.{rest_lists}
use Rattle.op_future.proofs.GotLemmas.{from_none, from_one}
use Rattle.op_future.proofs.RestLemmas.{got_behind, got_still, looked_on, rests_on, rests_still}
use Rattle.op_future.proofs.gathering.gather.Goals as goal

pub loop-op-init : goal.loop-op-init
loop-op-init g c =
    record {
      got =
          from_none g.N.LaneSession.names.script
          (rest_lists c.args.rest.now (opener_seat g.N.LaneSession.names.script)) (g.T.Task.state c.args.task.now);
      stays = rests_still g.N.LaneSession.names.script c.args.rest.now;
    }

pub loop-op-preserved : goal.loop-op-preserved
loop-op-preserved g c =
    let script = g.N.LaneSession.names.script in
    let on = looked_on script c.loop-op.rest c.result.new.self c.result.ensures.stays in
    record {
      got =
          got_behind script c.loop-op.rest c.result.new.self (g.T.Task.state c.args.task.now)
          (g.T.Task.state c.loop-op.task) (g.T.Task.state c.got.new.self) on c.loop-op.invariant.got
          (from_one script (rest_lists c.result.new.self (opener_seat script)) (g.T.Task.state c.loop-op.task)
          (g.T.Task.state c.got.new.self) c.in-Some-result.receipt c.in-Some-result.ensures.receipt
          c.got.ensures.receipts c.got.ensures.left);
      stays =
          rests_on script c.args.rest.now c.loop-op.rest c.result.new.self c.loop-op.invariant.stays on;
    }

pub returns-in-None-clause-got : goal.returns-in-None-clause-got
returns-in-None-clause-got g c =
    let script = g.N.LaneSession.names.script in
    got_still script c.loop-op.rest c.result.new.self (g.T.Task.state c.args.task.now) (g.T.Task.state c.loop-op.task)
    (looked_on script c.loop-op.rest c.result.new.self c.in-None.ensures.stays) c.loop-op.invariant.got

pub returns-in-None-clause-stays : goal.returns-in-None-clause-stays
returns-in-None-clause-stays g c =
    let script = g.N.LaneSession.names.script in
    rests_on script c.args.rest.now c.loop-op.rest c.result.new.self c.loop-op.invariant.stays
    (looked_on script c.loop-op.rest c.result.new.self c.in-None.ensures.stays)
