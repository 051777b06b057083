use Rattle.std.proofs.Common.{arith}
use Rattle.asio_types.proofs.SourceLemmas.{next_bytes}
use Rattle.asio_types.proofs.text_source.TextSourceSource.read.Goals as goal

pub returns-clause-next : goal.returns-clause-next
returns-clause-next c =
    rw (← c.self.view_is) (next_bytes c.self.inside.left c.give.result c.give.new.buf (omega arith)
    (λ none. omega arith) c.give.ensures.given)
