use Rattle.std.proofs.Common.{IsSome, sym, ap, subst, ◌∙◌}
use Rattle.std.specs.Prelude.{◌↔◌, IsTrue}
use Rattle.op_handlers.specs.Rack.{handlers_in}
use Rattle.strand_core.specs.Hands.{Held, held_at}
use Rattle.strand_core.proofs.HandLemmas.{neither}
use Rattle.strand_core.proofs.SpreadLemmas.{none_seen, seen_there}
use Rattle.strand_core.proofs.hands.Hands.holds.Goals as goal

pub returns-in-Some : goal.returns-in-Some
returns-in-Some g c =
    subst (λ h. IsTrue c.holds.result ↔ IsSome h)
    (seen_there c.self.inside.script.now c.self.inside.placing (handlers_in c.self.inside.held) c.self.invariant.size
    c.args.op c.in-Some.place c.in-Some.ensures
    ∙ ap (λ (v : Held g.row.H.Denot). held_at v c.args.op) c.self.view_is) c.holds.ensures

pub returns-in-None : goal.returns-in-None
returns-in-None g c =
    neither (held_at c.args.self.now c.args.op)
    (ap (λ (v : Held g.row.H.Denot). held_at v c.args.op) (sym c.self.view_is)
    ∙ none_seen c.self.inside.script.now c.self.inside.placing (handlers_in c.self.inside.held) c.self.invariant.size
    c.args.op c.in-None.ensures)
