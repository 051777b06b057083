use Rattle.std.proofs.Common.{subst}
use Rattle.strand_core.specs.Hands.{Held, KeepsInline}
use Rattle.strand_core.proofs.hands.Hands.keeps_inline.Goals as goal

pub returns : goal.returns
returns g c =
    subst (λ (v : Held g.row.H.Denot). KeepsInline v.script v.handlers) c.self.view_is c.self.invariant.keeps
