use Rattle.session_script.specs.Lanes.{lane_of}
use Rattle.lane_map.proofs.NumberLemmas.{number_stands}
use Rattle.lane_map.proofs.PlaceLemmas.{lanes_are_known}
use Rattle.lane_map.proofs.law.lanes_have_their_numbers.Goals as goal

pub returns : goal.returns
returns c n within =
    number_stands c.args.script.now n (lane_of c.args.script.now n) within
    (lanes_are_known c.args.script.now c.parents_come_first.ensures c.acts_fit.ensures n within)
