use Rattle.book_context.proofs.RoundStepLemmas.{has_ended, has_outside, has_polled, has_restarted, has_stopped, work_known}
use Rattle.book_context.proofs.law.rounds_are_recorded.Goals as goal

pub returns-clause-work : goal.returns-clause-work
returns-clause-work c = work_known

pub returns-clause-ends : goal.returns-clause-ends
returns-clause-ends c = has_ended

pub returns-clause-stops : goal.returns-clause-stops
returns-clause-stops c = has_stopped

pub returns-clause-polls : goal.returns-clause-polls
returns-clause-polls c = has_polled

pub returns-clause-restarts : goal.returns-clause-restarts
returns-clause-restarts c = has_restarted

pub returns-clause-outside : goal.returns-clause-outside
returns-clause-outside c = has_outside
