use Rattle.std.proofs.Common.{ap, sym, ◌∙◌}
use Rattle.io_rules.specs.Cancelling.{is_out_for}
use Rattle.io_scheduler.specs.Back.{misfits}
use Rattle.io_scheduler.proofs.brought.returnable.Goals as goal

pub returns-then-fits_back-clause-some : goal.returns-then-fits_back-clause-some
returns-then-fits_back-clause-some g c = record {
  op = c.get.result.now;
  found = c.get.ensures;
  head = c.in-Some.ensures.head c.get.result.now c.get.ensures;
  out = ap (is_out_for c.args.side) (sym c.out.ensures) ∙ sym c.is_out_for.ensures ∙ c.if-not-is_out_for.false;
  fit = sym c.fits_back.ensures ∙ c.if-fits_back.true;
}

pub returns-else-fits_back-clause-none : goal.returns-else-fits_back-clause-none
returns-else-fits_back-clause-none g c =
    misfits c.get.result.now (c.in-Some.ensures.head c.get.result.now c.get.ensures)
    (sym c.fits_back.ensures ∙ c.if-fits_back.false)
