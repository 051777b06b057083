use Rattle.std.proofs.Common.{◌∙◌}
use Rattle.lane_tests.proofs.HandsLemmas.{none_calls_first}
use Rattle.lane_tests.proofs.hands.discard_twice.Goals as goal

pub discard-hands-requires : goal.discard-hands-requires
discard-hands-requires g c =
    none_calls_first c.args.script.now c.parents_come_first.ensures c.args.hands c.requires

pub discard-hands-requires-2 : goal.discard-hands-requires-2
discard-hands-requires-2 g c =
    none_calls_first c.args.script.now c.parents_come_first.ensures c.discard-hands.result.0
    (c.discard-hands.ensures.script ∙ c.requires)
