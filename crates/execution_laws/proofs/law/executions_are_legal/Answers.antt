use Rattle.execution_laws.proofs.ExecutedLemmas.{is_legal_execution}
use Rattle.execution_laws.proofs.law.executions_are_legal.Goals as goal

pub returns : goal.returns
returns c = is_legal_execution
