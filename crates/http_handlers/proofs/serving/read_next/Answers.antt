use Rattle.std.proofs.Common.{refl}
use Rattle.http_handlers.proofs.serving.read_next.Goals as goal

pub returns-clause-reads : goal.returns-clause-reads
returns-clause-reads c = record {
  answers = c.clear.new.self;
  none = c.clear.ensures.items;
  kept = rw (c.until-state.ensures, c.has_begun-state.ensures) refl;
  reads = c.read.ensures.reads;
}
