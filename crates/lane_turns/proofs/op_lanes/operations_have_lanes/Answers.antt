use Rattle.std.proofs.Common.{arith}
use Rattle.lane_map.proofs.RankLemmas.{op_within}
use Rattle.lane_turns.proofs.OpLaneLemmas.{operation_home}
use Rattle.lane_turns.proofs.op_lanes.operations_have_lanes.Goals as goal

pub returns : goal.returns
returns c n is =
    let within = op_within c.args.script.now n is in
    operation_home c.args.script.now c.parents_come_first.ensures n (c.lanes_have_their_numbers.ensures n within)
    (omega (arith, c.lanes_have_cells.ensures.count, c.lanes_have_cells.ensures.home n within)) is
