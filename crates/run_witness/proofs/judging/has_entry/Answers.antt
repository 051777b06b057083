use Rattle.std.proofs.Common.{sym, ◌∙◌}
use Rattle.run_witness.proofs.BusyLemmas.{entry_here, entry_none}
use Rattle.run_witness.proofs.judging.has_entry.Goals as goal

pub returns-in-Some : goal.returns-in-Some
returns-in-Some c = λ past after.
    entry_here past c.args.op c.args.strand c.in-Some.waiter (sym (c.waiter.ensures past after)
    ∙ c.in-Some.is) c.is_submitted.result
    c.is_submitted.ensures

pub returns-in-None : goal.returns-in-None
returns-in-None c = λ past after. entry_none past c.args.op c.args.strand (sym (c.waiter.ensures past after) ∙ c.in-None.is)
