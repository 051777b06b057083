use Rattle.std.proofs.Common.{sym, ◌∙◌}
use Rattle.run_witness.proofs.CausesLemmas.{fact_known, seen_line, unseen_line}
use Rattle.run_witness.proofs.causes.Causes.see.Goals as goal

pub returns-in_ok-note-in-Some : goal.returns-in_ok-note-in-Some
returns-in_ok-note-in-Some c = λ apart thing run are less causes.
    seen_line thing run c.args.facts.now c.args.placing.now c.args.place c.args.self.now c.note.new.self c.in-Some.fact
    c.position-stands.result are causes (sym c.at.ensures ∙ c.in-Some.is) c.position-stands.ensures
    (c.is_behind.ensures.0 c.if-is_behind.true) c.in_ok-note-in-Some.ensures

pub returns-else-is_behind : goal.returns-else-is_behind
returns-else-is_behind c = λ apart thing run are less causes.
    unseen_line thing run c.args.facts.now c.args.placing.now c.args.place c.args.self.now c.args.self.now c.in-Some.fact
    c.position-stands.result c.is_behind.result are causes (sym c.at.ensures ∙ c.in-Some.is) c.position-stands.ensures
    c.is_behind.ensures c.if-is_behind.false

pub returns-in-None : goal.returns-in-None
returns-in-None c = λ apart thing run are less causes.
    absurd (fact_known thing run c.args.facts.now c.args.place are less (sym c.at.ensures ∙ c.in-None.is))
