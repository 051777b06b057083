use Rattle.std.proofs.Common.{◌<◌, length, get_or, arith}
use Rattle.std.proofs.lemmas.List.{get_or_default}
use Rattle.std.proofs.lemmas.List.Edits.{map_over_more}
use Rattle.history_book.proofs.stopping.put_each.Goals as goal

pub loop-strand-preserved : goal.loop-strand-preserved
loop-strand-preserved c =
    let within : c.loop-strand.strand-index < length c.loop-strand.strands = omega arith in
    let at = get_or c.loop-strand.strands c.loop-strand.strand-index c.args.allowed in
    map_over_more (λ _. c.args.allowed) c.args.strands.now _ _ at (omega arith) c.loop-strand.invariant
    (get_or_default c.loop-strand.strands _ _ at within)
