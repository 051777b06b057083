use Rattle.std.proofs.Common.{subst}
use Rattle.http_handlers.specs.Serving.{GoesOn, reading}
use Rattle.http_handlers.specs.Serving.ReadsFirst.{reads}
use Rattle.http_handlers.proofs.serving.read_first.Goals as goal

pub returns-in-Ok-clause-reads : goal.returns-in-Ok-clause-reads
returns-in-Ok-clause-reads c =
    reads c.in-Ok.exchange c.in-Ok.buffer c.in-Ok.ensures.0 c.in-Ok.ensures.1
    (subst (λ link. GoesOn link (reading c.in-Ok.exchange c.in-Ok.buffer) c.args.io.now c.read.new.io)
    c.in-Ok.ensures.0.link_is c.read.ensures.reads)
