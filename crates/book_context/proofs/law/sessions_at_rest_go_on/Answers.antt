use Rattle.book_context.proofs.NextLemmas.{all_quiet, may_begin, may_take}
use Rattle.book_context.proofs.law.sessions_at_rest_go_on.Goals as goal

pub returns-clause-begins : goal.returns-clause-begins
returns-clause-begins c = may_begin

pub returns-clause-takes : goal.returns-clause-takes
returns-clause-takes c = may_take

pub returns-clause-quiet : goal.returns-clause-quiet
returns-clause-quiet c = all_quiet
