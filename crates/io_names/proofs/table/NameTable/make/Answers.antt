use Rattle.io_names.proofs.FreeLemmas.{one_more}
use Rattle.io_names.proofs.table.NameTable.make.Goals as goal

pub loop-at-preserved : goal.loop-at-preserved
loop-at-preserved c =
    rw (c.push_back_reserved.ensures.items, c.push_back_reserved.ensures.capacity)
    (one_more _ _ c.loop-at.invariant.0, c.loop-at.invariant.1)
