use Rattle.std.proofs.Common.{sym, ◌∙◌}
use Rattle.run_witness.proofs.FactsLemmas.{calls_idle, calls_nothing}
use Rattle.run_witness.proofs.facts.Facts.idle_at.Goals as goal

pub returns-in-Some : goal.returns-in-Some
returns-in-Some c = λ apart thing run are.
    calls_idle apart thing run c.args.self.now c.args.place c.in-Some.fact c.idle_called.result are (sym c.at.ensures
    ∙ c.in-Some.is)
    c.idle_called.ensures

pub returns-in-None : goal.returns-in-None
returns-in-None c = λ apart thing run are. calls_nothing apart thing run c.args.self.now c.args.place are
    (sym c.at.ensures ∙ c.in-None.is)
