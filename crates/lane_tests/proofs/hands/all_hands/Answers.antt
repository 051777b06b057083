use Rattle.std.proofs.Common.{None}
use Rattle.op_handlers.specs.Rack.{handlers_in}
use Rattle.lane_tests.proofs.HandsLemmas.{whole_has}
use Rattle.lane_tests.proofs.hands.all_hands.Goals as goal

pub of_script-requires : goal.of_script-requires
of_script-requires g c =
    whole_has c.args.script.now None (handlers_in c.args.rack.now) c.requires.whole c.requires.enough
