use Rattle.http_handlers.proofs.ConnectionsLemmas.{said_once}
use Rattle.http_handlers.proofs.law.all_that_came_has_one_answer.Goals as goal

pub returns : goal.returns
returns c = said_once
