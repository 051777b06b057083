use Rattle.std.proofs.Common.{ap, arith, ◌<◌, ◌∙◌}
use Rattle.std.proofs.lemmas.List.{get_or_read}
use Rattle.std.specs.Prelude.{length}
use Rattle.io_queues.specs.Linked.{linked}
use Rattle.io_queues.proofs.NumberLemmas.{steps_more}
use Rattle.io_queues.proofs.links.node_behind.Goals as goal

pub index-at-requires : goal.index-at-requires
index-at-requires c =
    let within : c.loop.at < length c.args.next.now.items = rw c.loop.invariant (c.requires c.loop.counter c.loop-test.true) in
    omega (arith, within)

pub loop-preserved : goal.loop-preserved
loop-preserved c =
    let within : c.loop.at < length c.args.next.now.items = rw c.loop.invariant (c.requires c.loop.counter c.loop-test.true) in
    get_or_read c.args.next.now.items c.loop.at c.index-at.result.now within c.index-at.ensures 0
    ∙ ap (linked c.args.next.now.items) c.loop.invariant
    ∙ steps_more c.args.next.now.items c.args.node c.loop.counter
