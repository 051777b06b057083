use Rattle.std.proofs.Common.{rules}
use Rattle.http_handlers.proofs.ConnectionsLemmas.{on_ok, says_more, says_over}
use Rattle.http_handlers.proofs.connection.Connection.feed.Goals as goal

pub returns-then-self-clause-all : goal.returns-then-self-clause-all
returns-then-self-clause-all c came said so = says_over came said _ _ _ so (search rules)

pub returns-else-is_err-clause-all : goal.returns-else-is_err-clause-all
returns-else-is_err-clause-all c came said so =
    on_ok _ _ _ (says_more came said _ _ _ _ _ so (search rules)) c.take-taken.ensures
