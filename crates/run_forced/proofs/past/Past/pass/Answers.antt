use Rattle.std.proofs.Common.{◌∙◌, ap, sym}
use Rattle.run_lines.specs.declared.line.Line.{Line}
use Rattle.run_forced.proofs.past.Past.pass.Goals as goal

pub returns-clause-known : goal.returns-clause-known
returns-clause-known c = λ run here knows.
    c.in_ok-mark.ensures run here.spot knows here.there (sym (ap (λ (l : Line). l.does) here.known.note.same) ∙ c.in-Mark.is)
