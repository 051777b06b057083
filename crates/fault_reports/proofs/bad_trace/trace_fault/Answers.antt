use Rattle.fault_reports.proofs.bad_trace.trace_fault.Goals as goal

pub returns-in-None-clause-line : goal.returns-in-None-clause-line
returns-in-None-clause-line c = λ within. rw c.long_trace_fault.ensures tt

pub returns-in-None-clause-place : goal.returns-in-None-clause-place
returns-in-None-clause-place c = λ within. rw c.long_trace_fault.ensures tt
