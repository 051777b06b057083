use Rattle.std.proofs.Common.{◌≡◌, rules, sym}
use Rattle.run_rules.specs.declared.frame.Frame.TheVariants.{Execution}
use Rattle.run_forced.proofs.PastLemmas.{ended_here}
use Rattle.run_forced.proofs.past.Past.end_turn.Goals as goal

pub returns-clause-turns : goal.returns-clause-turns
returns-clause-turns c = λ run lines here are ended.
    let frame : c.args.event.now.note.frame ≡ Execution c.in-Some.op = search rules in
    c.in_ok-gone.ensures run ended
    (ended_here run c.args.place lines c.in-Some.op c.in-Some-strand.strand c.args.event.now c.args.self.now.sources c.begin.result
    c.behind.result here are (sym c.in-Some.ensures) frame c.in-Some-strand.is c.begin.ensures c.behind.ensures)
