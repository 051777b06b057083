use Rattle.std.proofs.Common.{Some}
use Rattle.op_handlers.specs.Rack.{handlers_in}
use Rattle.lane_tests.proofs.HandsLemmas.{others_left, whole_has}
use Rattle.lane_tests.proofs.noting.hands_of.Goals as goal

pub of_lane-requires : goal.of_lane-requires
of_lane-requires g c =
    whole_has c.args.script.now (Some c.args.lanes.0) (handlers_in c.args.rack.now) c.requires.whole c.requires.enough

pub of_lane-requires-2 : goal.of_lane-requires-2
of_lane-requires-2 g c =
    others_left c.args.script.now c.args.lanes.0 c.args.lanes.1 (handlers_in c.args.rack.now)
    (handlers_in c.of_lane.new.rack) c.requires.apart (rw c.expect-one.ensures at c.of_lane.ensures.left)
    (whole_has c.args.script.now (Some c.args.lanes.1) (handlers_in c.args.rack.now) c.requires.whole c.requires.enough)
