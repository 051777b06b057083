use Rattle.execution_laws.proofs.AccountLemmas.{account_done, account_last, account_take, account_tick}
use Rattle.execution_laws.proofs.AccountedLemmas.{account_execution, account_opening}
use Rattle.execution_laws.proofs.law.sessions_stay_accounted.Goals as goal

pub returns-clause-executions : goal.returns-clause-executions
returns-clause-executions c = account_execution

pub returns-clause-openings : goal.returns-clause-openings
returns-clause-openings c = account_opening

pub returns-clause-takes : goal.returns-clause-takes
returns-clause-takes c = account_take

pub returns-clause-completions : goal.returns-clause-completions
returns-clause-completions c = account_done

pub returns-clause-ticks : goal.returns-clause-ticks
returns-clause-ticks c = account_tick

pub returns-clause-last : goal.returns-clause-last
returns-clause-last c = account_last
