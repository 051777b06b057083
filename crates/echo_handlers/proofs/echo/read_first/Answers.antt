use Rattle.echo_handlers.specs.Echoed.Reads.{reads}
use Rattle.echo_handlers.proofs.echo.read_first.Goals as goal

pub returns-in-Ok-clause-reads : goal.returns-in-Ok-clause-reads
returns-in-Ok-clause-reads c = reads c.in-Ok.buffer c.in-Ok.ensures.len c.read.ensures.reads
