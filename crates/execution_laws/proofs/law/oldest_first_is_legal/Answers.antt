use Rattle.execution_laws.proofs.ReadyLemmas.{first_of_lane, first_request}
use Rattle.execution_laws.proofs.law.oldest_first_is_legal.Goals as goal

pub returns-clause-lanes : goal.returns-clause-lanes
returns-clause-lanes c = first_of_lane

pub returns-clause-requests : goal.returns-clause-requests
returns-clause-requests c = first_request
