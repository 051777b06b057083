use Rattle.book_context.proofs.PartLemmas.{history_goes_on, in_parts, state_goes_on}
use Rattle.book_context.proofs.law.histories_go_on.Goals as goal

pub returns-clause-parts : goal.returns-clause-parts
returns-clause-parts c = in_parts

pub returns-clause-histories : goal.returns-clause-histories
returns-clause-histories c = history_goes_on

pub returns-clause-states : goal.returns-clause-states
returns-clause-states c = state_goes_on
