use Rattle.execution_laws.proofs.ExecutedLemmas.{is_order_kept}
use Rattle.execution_laws.proofs.OpenedLemmas.{is_order_begun}
use Rattle.execution_laws.proofs.law.executions_keep_order.Goals as goal

pub returns-clause-executions : goal.returns-clause-executions
returns-clause-executions c = is_order_kept

pub returns-clause-openings : goal.returns-clause-openings
returns-clause-openings c = is_order_begun
