use Rattle.execution_laws.specs.Marks.{BeginsAt, IsToldMark}
use Rattle.strand_core.specs.Execution.{AnyMark}
use Rattle.execution_laws.specs.Shown.{IsRunMark}
use Rattle.execution_laws.proofs.ShownLemmas.{follow_execution, marked_execution, marks_go_on, of_calls, unmarked_opening}
use Rattle.execution_laws.proofs.law.executions_show_marks.Goals as goal

pub returns-clause-calls : goal.returns-clause-calls
returns-clause-calls c = of_calls

pub returns-clause-any : goal.returns-clause-any
returns-clause-any c = λ script run op code size calls whole.
    follow_execution script (IsRunMark run) AnyMark (λ n mark has. tt) op code size calls whole

pub returns-clause-executions : goal.returns-clause-executions
returns-clause-executions c = λ script run drop history. marked_execution script run drop (BeginsAt history)

pub returns-clause-openings : goal.returns-clause-openings
returns-clause-openings c = λ script run drop history.
    unmarked_opening script (IsToldMark run (BeginsAt history)) drop

pub returns-clause-histories : goal.returns-clause-histories
returns-clause-histories c = marks_go_on
