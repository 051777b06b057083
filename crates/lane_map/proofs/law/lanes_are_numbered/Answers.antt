use Rattle.session_script.specs.Lanes.{lane_of}
use Rattle.lane_map.proofs.NumberLemmas.{lane_count, number_within}
use Rattle.lane_map.proofs.PlaceLemmas.{lanes_are_known}
use Rattle.lane_map.proofs.law.lanes_are_numbered.Goals as goal

pub returns-clause-count : goal.returns-clause-count
returns-clause-count c = lane_count c.args.script.now

pub returns-clause-within : goal.returns-clause-within
returns-clause-within c n within =
    number_within c.args.script.now n (lane_of c.args.script.now n) within
    (lanes_are_known c.args.script.now c.parents_come_first.ensures c.acts_fit.ensures n within)
