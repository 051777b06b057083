use Rattle.std.proofs.Common.{rules}
use Rattle.chat_handlers.specs.Serving.Joins.{here}
use Rattle.chat_handlers.proofs.serving.join.Goals as goal

pub returns-then-eq-clause-joins : goal.returns-then-eq-clause-joins
returns-then-eq-clause-joins c = here (search rules) c.admit_if.ensures.admits
