use Rattle.std.proofs.Common.{ap, refl, sym, ◌∙◌}
use Rattle.session_orders.proofs.SameLemmas.{same_parts}
use Rattle.session_orders.proofs.same.have_same_act.Goals as goal

pub returns : goal.returns
returns c is =
    sym c.act-one.ensures
    ∙ same_parts c.act-one.result c.act-other.result (c.if-not-is_same_call.ensures refl) (c.is_same_phase.ensures is)
    ∙ c.act-other.ensures
