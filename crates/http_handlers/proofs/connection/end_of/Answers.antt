use Rattle.std.proofs.Common.{arith, rules}
use Rattle.http_handlers.proofs.ConnectionsLemmas.{gives_none, gives_refusal}
use Rattle.http_handlers.proofs.connection.end_of.Goals as goal

pub returns-then-bytes-lt-MOST_HEAD : goal.returns-then-bytes-lt-MOST_HEAD
returns-then-bytes-lt-MOST_HEAD c = gives_none _ _ _ c.requires (omega (arith, c.if-bytes-lt-MOST_HEAD.true))

pub returns : goal.returns
returns c = gives_refusal _ _ _ _ c.requires (omega (arith, c.if-bytes-lt-MOST_HEAD.false)) (search rules)
