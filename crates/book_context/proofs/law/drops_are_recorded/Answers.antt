use Rattle.book_context.proofs.DropStepLemmas.{dropped_legal, dropping_begins, has_dropped, inline_spent, passed, unspent_called}
use Rattle.book_context.proofs.law.drops_are_recorded.Goals as goal

pub returns-clause-unspent : goal.returns-clause-unspent
returns-clause-unspent c = unspent_called

pub returns-clause-inline : goal.returns-clause-inline
returns-clause-inline c = inline_spent

pub returns-clause-begins : goal.returns-clause-begins
returns-clause-begins c = dropping_begins

pub returns-clause-drops : goal.returns-clause-drops
returns-clause-drops c = λ told r n mark t drops left. has_dropped told r n t drops mark left

pub returns-clause-passes : goal.returns-clause-passes
returns-clause-passes c = passed

pub returns-clause-ends : goal.returns-clause-ends
returns-clause-ends c = dropped_legal
