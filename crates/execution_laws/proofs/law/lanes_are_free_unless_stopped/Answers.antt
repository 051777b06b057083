use Rattle.execution_laws.proofs.FreeLemmas.{free_executed, free_may_start, free_opened, free_restart, free_turn}
use Rattle.execution_laws.proofs.law.lanes_are_free_unless_stopped.Goals as goal

pub returns-clause-openings : goal.returns-clause-openings
returns-clause-openings c = free_opened

pub returns-clause-executions : goal.returns-clause-executions
returns-clause-executions c = free_executed

pub returns-clause-turns : goal.returns-clause-turns
returns-clause-turns c = free_turn

pub returns-clause-restarts : goal.returns-clause-restarts
returns-clause-restarts c = free_restart

pub returns-clause-begins : goal.returns-clause-begins
returns-clause-begins c = free_may_start
