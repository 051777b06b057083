use Rattle.std.proofs.Common.{◌≡◌, take}
use Rattle.std.specs.Prelude.{sum_by}
use Rattle.history_book.specs.Queues.{size_of}
use Rattle.history_book.proofs.questions.count_in.Given as goal

abbrev pub invariant-loop-each : goal.invariant-loop-each
invariant-loop-each l = l.count ≡ sum_by size_of (take l.each-index l.queues)
