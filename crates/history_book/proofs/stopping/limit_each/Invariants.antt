use Rattle.std.proofs.Common.{◌≡◌, map, take, drop, ◌++◌}
use Rattle.history_rules.specs.Stopping.{at_most_one}
use Rattle.history_book.proofs.stopping.limit_each.Given as goal

abbrev pub invariant-loop-strand : goal.invariant-loop-strand
invariant-loop-strand l =
    l.strands ≡ map at_most_one (take l.strand-index l.initial.strands) ++ drop l.strand-index l.initial.strands
