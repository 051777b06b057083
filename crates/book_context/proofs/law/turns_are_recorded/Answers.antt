use Rattle.book_context.proofs.TellStepLemmas.{has_told}
use Rattle.book_context.proofs.TimeStepLemmas.{has_failed, has_passed, has_ticked}
use Rattle.book_context.proofs.TurnStepLemmas.{has_taken}
use Rattle.book_context.proofs.law.turns_are_recorded.Goals as goal

pub returns-clause-takes : goal.returns-clause-takes
returns-clause-takes c = has_taken

pub returns-clause-completions : goal.returns-clause-completions
returns-clause-completions c = has_told

pub returns-clause-ticks : goal.returns-clause-ticks
returns-clause-ticks c = λ told r now knows waiting next. has_ticked told r knows waiting now next

pub returns-clause-last : goal.returns-clause-last
returns-clause-last c = λ told r knows waiting next. has_passed told r knows waiting next

pub returns-clause-faults : goal.returns-clause-faults
returns-clause-faults c = has_failed
