use Rattle.std.proofs.Common.{sym, ◌∙◌}
use Rattle.io_rules.specs.State.{stream_at}
use Rattle.io_scheduler.specs.Tried.{waits}
use Rattle.io_scheduler.proofs.TriedLemmas.{none_out}
use Rattle.io_scheduler.proofs.trying.triable.Goals as goal

pub returns-then-is_ready-clause-some : goal.returns-then-is_ready-clause-some
returns-then-is_ready-clause-some g c = record {
  op = c.get.result.now;
  found = c.get.ensures;
  head = c.in-Some.ensures.head c.get.result.now c.get.ensures;
  back = none_out (stream_at c.args.streams.now.streams c.args.name).out (sym c.is_busy.ensures ∙ c.if-is_busy.false);
  ready = sym c.is_ready.ensures ∙ c.if-is_ready.true;
}

pub returns-else-is_ready-clause-none : goal.returns-else-is_ready-clause-none
returns-else-is_ready-clause-none g c =
    waits c.get.result.now (c.in-Some.ensures.head c.get.result.now c.get.ensures)
    (sym c.is_ready.ensures ∙ c.if-is_ready.false)
