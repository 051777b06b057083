use Rattle.std.proofs.Common.{◌≡◌, map, take, drop, ◌++◌}
use Rattle.history_book.proofs.stopping.put_each.Given as goal

abbrev pub invariant-loop-strand : goal.invariant-loop-strand
invariant-loop-strand l =
    l.strands ≡ map (λ _. l.allowed) (take l.strand-index l.initial.strands) ++ drop l.strand-index l.initial.strands
