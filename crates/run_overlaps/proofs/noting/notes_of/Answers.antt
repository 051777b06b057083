use Rattle.std.proofs.Common.{List, reverse, subst, sym, take, ◌+◌}
use Rattle.run_joins.specs.declared.note.Note.{Note}
use Rattle.run_overlaps.specs.Noting.{HasNoted}
use Rattle.run_overlaps.proofs.NotingLemmas.{noted_more}
use Rattle.run_overlaps.proofs.noting.notes_of.Goals as goal

pub loop-line-preserved : goal.loop-line-preserved
loop-line-preserved c =
    subst (λ (notes : List Note). HasNoted (reverse (take (c.loop-line.line-index + 1) c.args.lines.now)) c.note.new.watch notes)
    (sym c.in-Ok.ensures.items)
    (noted_more c.args.lines.now c.loop-line.line-index c.line-item.result c.loop-line.watch c.note.new.watch c.loop-line.notes.items
    c.in_ok-noted.noted c.loop-line-test.true c.line-item.is c.loop-line.invariant c.in_ok-noted.ensures)
