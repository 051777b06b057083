use Rattle.book_context.proofs.ExecutedStepLemmas.{has_executed, may_execute}
use Rattle.book_context.proofs.law.executions_are_recorded.Goals as goal

pub returns-clause-next : goal.returns-clause-next
returns-clause-next c = may_execute

pub returns-clause-executions : goal.returns-clause-executions
returns-clause-executions c = λ told r op code size newer calls knows oldest going round whole.
    has_executed told r op code size newer knows oldest going round calls whole
