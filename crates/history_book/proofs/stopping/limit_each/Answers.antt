use Rattle.std.proofs.Common.{◌<◌, length, get_or, arith}
use Rattle.std.proofs.lemmas.List.{get_or_default}
use Rattle.std.proofs.lemmas.List.Edits.{map_over_more}
use Rattle.history_rules.specs.declared.phase.Allowance.TheVariants as allowance
use Rattle.history_rules.specs.Stopping.{at_most_one}
use Rattle.history_book.proofs.stopping.limit_each.Goals as goal

pub loop-strand-preserved : goal.loop-strand-preserved
loop-strand-preserved c =
    let within : c.loop-strand.strand-index < length c.loop-strand.strands = omega arith in
    let at = get_or c.loop-strand.strands c.loop-strand.strand-index allowance.Free in
    rw c.at_most_one.ensures
    (map_over_more at_most_one c.args.strands.now _ _ at (omega arith) c.loop-strand.invariant
    (get_or_default c.loop-strand.strands _ _ at within))
