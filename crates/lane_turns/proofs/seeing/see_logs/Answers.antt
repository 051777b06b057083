use Rattle.lane_logs.specs.Drops.{is_call_of}
use Rattle.lane_logs.specs.LaneLog.{is_begin_of}
use Rattle.lane_turns.proofs.SeeingLemmas.{marks_item}
use Rattle.lane_turns.proofs.seeing.see_logs.Goals as goal

pub loop-log-preserved : goal.loop-log-preserved
loop-log-preserved c =
    record {
      called =
          marks_item is_call_of c.args.called.now c.loop-log.called c.see_log.new.called c.loop-log.auto.called
          (λ log. log.items) c.args.logs.now c.loop-log.log-index c.log-item.result c.as_slice.result.now
          c.loop-log-test.true c.log-item.is c.as_slice.ensures.value c.loop-log.invariant.called c.see_log.ensures.called;
      begun =
          marks_item is_begin_of c.args.begun.now c.loop-log.begun c.see_log.new.begun c.loop-log.auto.begun
          (λ log. log.items) c.args.logs.now c.loop-log.log-index c.log-item.result c.as_slice.result.now
          c.loop-log-test.true c.log-item.is c.as_slice.ensures.value c.loop-log.invariant.begun c.see_log.ensures.begun;
    }
