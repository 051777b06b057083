use Rattle.std.proofs.Common.{length, sym, ap, ◌∙◌}
use Rattle.op_handlers.specs.Rack.{drop_marks, handlers_in}
use Rattle.strand_core.specs.Hands.{Held}
use Rattle.strand_core.specs.Placing.{has_place}
use Rattle.strand_core.proofs.SpreadLemmas.{marks-spread}
use Rattle.strand_core.proofs.hands.Hands.discard_all.Goals as goal

pub returns-clause-marks : goal.returns-clause-marks
returns-clause-marks g c =
    c.discard_all.ensures.marks
    ∙ sym (marks-spread (has_place c.self.inside.script.now c.self.inside.placing) (length c.self.inside.script.now.acts)
    g.H.CompletionHandler.marks (handlers_in c.self.inside.held) c.self.invariant.size)
    ∙ ap (λ (v : Held g.row.H.Denot). drop_marks g.H.CompletionHandler.marks v.handlers) c.self.view_is
