use Rattle.atomic_table.proofs.Lists.{at_index}
use Rattle.merge_tests.proofs.DrawingLemmas.{next_positioned}
use Rattle.merge_tests.proofs.drawing.draw.Goals as goal

pub returns : goal.returns
returns g c = next_positioned c.args.logs.now.items c.args.seat c.index_mut-log.result.now c.add.new.log c.args.count
    c.args.event (at_index c.args.logs.now.items c.args.seat c.index_mut-log.result.now c.requires.there
    c.index_mut-log.ensures.value) c.add.ensures c.requires.positioned
