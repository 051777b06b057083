use Rattle.std.proofs.Common.{ap, sym, ◌∙◌}
use Rattle.io_scheduler.specs.Settling.{gets_at_once, stays_first}
use Rattle.io_scheduler.proofs.settling.first_at_once.Goals as goal

pub returns-in-None-gets_at_once-clause-none : goal.returns-in-None-gets_at_once-clause-none
returns-in-None-gets_at_once-clause-none g c =
    stays_first c.get.result.now (c.in-Some.ensures.head c.get.result.now c.get.ensures)
    (ap (λ b. gets_at_once b c.get.result.now.item.kind c.get.result.now.item.moved) (sym c.is_linked.ensures)
    ∙ sym c.gets_at_once.ensures ∙ c.in-None-gets_at_once.is)

pub returns-in-Some-gets_at_once-clause-some : goal.returns-in-Some-gets_at_once-clause-some
returns-in-Some-gets_at_once-clause-some g c = record {
  op = c.get.result.now;
  found = c.get.ensures;
  head = c.in-Some.ensures.head c.get.result.now c.get.ensures;
  gets = ap (λ b. gets_at_once b c.get.result.now.item.kind c.get.result.now.item.moved) (sym c.is_linked.ensures)
      ∙ sym c.gets_at_once.ensures ∙ c.in-Some-gets_at_once.is;
}
