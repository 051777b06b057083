use Rattle.std.proofs.Common.{arith}
use Rattle.session_run.proofs.MergedLemmas.{holds_named}
use Rattle.future_tests.proofs.joined.join_lanes.Goals as goal

pub make-made-requires-clause-marks : goal.make-made-requires-clause-marks
make-made-requires-clause-marks g c =
    holds_named g.H.CompletionHandler.marks g.N.LaneSession.names c.args.script.now _ c.args.rack.now c.requires.names
    c.requires.whole (omega (arith, c.acts.ensures.count, c.acts.ensures.limit, c.requires.count))
