use Rattle.std.proofs.Common.{sym, ◌∙◌}
use Rattle.run_witness.proofs.BusyLemmas.{busy_held, busy_unheld}
use Rattle.run_witness.proofs.WitnessLemmas.{none_some}
use Rattle.run_witness.proofs.judging.is_busy.Goals as goal

pub returns-in-Some : goal.returns-in-Some
returns-in-Some c = λ past after called.
    busy_held past c.in-Some.field-0 c.args.strand ((c.holder.ensures past after c.in-Some.field-0).1 c.in-Some.is)

pub returns-in-None : goal.returns-in-None
returns-in-None c = λ past after called.
    busy_unheld past c.args.strand c.args.called.now
    (λ thread holds. none_some thread (sym c.in-None.is ∙ (c.holder.ensures past after thread).0 holds)) called
    c.some_has_entry.result (c.some_has_entry.ensures past after)
