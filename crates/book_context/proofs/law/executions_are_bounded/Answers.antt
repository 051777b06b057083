use Rattle.book_context.proofs.BoundLemmas.{bounded_execution, bounded_opening}
use Rattle.book_context.proofs.law.executions_are_bounded.Goals as goal

pub returns-clause-executions : goal.returns-clause-executions
returns-clause-executions c = bounded_execution

pub returns-clause-openings : goal.returns-clause-openings
returns-clause-openings c = bounded_opening
