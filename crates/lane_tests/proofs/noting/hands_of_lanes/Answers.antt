use Rattle.std.proofs.Common.{None}
use Rattle.op_handlers.specs.Rack.{handlers_in}
use Rattle.lane_tests.proofs.HandsLemmas.{whole_has}
use Rattle.lane_tests.proofs.noting.hands_of_lanes.Goals as goal

pub of_lanes-requires-clause-there : goal.of_lanes-requires-clause-there
of_lanes-requires-clause-there g c =
    whole_has c.args.script.now None (handlers_in c.args.rack.now) c.requires.whole c.requires.enough
