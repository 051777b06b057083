use Rattle.std.proofs.Common.{Some}
use Rattle.asio_types.specs.declared.number.Lane.TheVariants as lane
use Rattle.op_handlers.specs.Rack.{handlers_in}
use Rattle.strand_core.specs.Hands.{is_of_lane}
use Rattle.lane_tests.proofs.HandsLemmas.{room_for_taken, whole_has}
use Rattle.lane_tests.proofs.hands.give_back.Goals as goal

pub of_lane-requires : goal.of_lane-requires
of_lane-requires g c =
    whole_has c.args.script.now (Some (lane.Strand 0)) (handlers_in c.args.rack.now) c.requires.whole c.requires.enough

pub give_back-requires : goal.give_back-requires
give_back-requires g c =
    room_for_taken (is_of_lane c.args.script.now (lane.Strand 0)) (handlers_in c.args.rack.now)
    (handlers_in c.of_lane.new.rack) c.expect-hands.result.handlers
    (rw c.expect-hands.ensures at c.of_lane.ensures.count) (rw c.expect-hands.ensures at c.of_lane.ensures.held)
    (rw c.expect-hands.ensures at c.of_lane.ensures.left)
