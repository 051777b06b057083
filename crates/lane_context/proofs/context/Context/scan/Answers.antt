use Rattle.std.proofs.Common.{sym, ◌∙◌}
use Rattle.lane_turns.specs.LaneValues.{terms, tries}
use Rattle.lane_turns.specs.Scanning.{none_passed}
use Rattle.lane_turns.proofs.AttemptLemmas.{free_after, no_fault}
use Rattle.lane_turns.proofs.ScanLemmas.{passed_more}
use Rattle.lane_context.proofs.context.Context.scan.Goals as goal

pub loop-lane-init : goal.loop-lane-init
loop-lane-init g c = record { passed = none_passed; turns = c.requires.turns; free = c.requires.free }

pub loop-lane-preserved : goal.loop-lane-preserved
loop-lane-preserved g c =
    let t =
    tries (terms g.N.LaneSession.names g.H.CompletionHandler.marks g.X.Reactor.state g.X.Reactor.told g.X.Reactor.faults
    g.N.LaneSession.faults g.N.LaneSession.clock) c.args.most in
    record {
      passed =
          passed_more t c.args.from c.args.worker.now c.attempt-one.result c.loop-lane.lane c.loop-lane.worker
          c.attempt-one.new.worker c.loop-lane.invariant.passed c.attempt-one.ensures.tried
          (sym c.is_nothing.ensures ∙ c.if-not-is_nothing.false);
      turns = c.attempt-one.ensures.turns;
      free =
          free_after t c.loop-lane.lane c.attempt-one.result _ _ _ c.attempt-one.ensures.tried.tried
          (no_fault c.attempt-one.result (sym c.is_nothing.ensures ∙ c.if-not-is_nothing.false));
    }
