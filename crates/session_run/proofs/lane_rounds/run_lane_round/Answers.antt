use Rattle.std.proofs.Common.{arith}
use Rattle.session_run.proofs.LaneRoundLemmas.{within_most}
use Rattle.session_run.proofs.lane_rounds.run_lane_round.Goals as goal

pub run_side_by_side-requires-clause-count : goal.run_side_by_side-requires-clause-count
run_side_by_side-requires-clause-count g c κs within =
    let most = within_most g.N.LaneSession.names.script.rounds c.args.at c.args.round.now c.requires.round in
    omega (arith, c.from.ensures, c.begin_round.ensures.ready.rows.size, most)
