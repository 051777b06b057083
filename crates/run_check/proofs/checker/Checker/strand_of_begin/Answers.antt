use Rattle.std.proofs.Common.{◌∙◌, ap}
use Rattle.std.specs.Prelude.{Option, ℕ}
use Rattle.run_check.specs.Judging.{let_in_by}
use Rattle.run_check.proofs.StepLemmas.{begin_goes}
use Rattle.run_check.proofs.checker.Checker.strand_of_begin.Goals as goal

pub returns : goal.returns
returns c = λ past after unspent.
    begin_goes past c.args.self.now after c.args.thread c.args.op unspent c.strand-strand.result c.let_in_by.result
    c.strand-strand.ensures
    (c.let_in_by.ensures ∙ ap (λ (h : Option ℕ). let_in_by c.strand-strand.result h c.args.thread) c.holder_of-holder.ensures)
