use Rattle.std.proofs.Common.{◌≡◌, ℕ, List, [], filter, ap, subst, ◌∙◌}
use Rattle.proactor_core.specs.Waits.{Waiting, expired, has_expired}
use Rattle.proactor_core.proofs.DrainLemmas.{drain-waits}
use Rattle.proactor_core.proofs.waits.Waits.complete_due.Goals as goal

pub returns-clause-waits : goal.returns-clause-waits
returns-clause-waits c =
    let P : List ℕ → Type 0 = λ expiries. filter (has_expired c.args.now expiries) c.loop-op.self.waits ≡ [] in
    let none = subst P (ap (λ (w : Waiting). w.expiries) c.loop-op.invariant.same) c.in_default.ensures.none in
    c.in_default.ensures.unchanged
    ∙ drain-waits (has_expired c.args.now c.args.self.now.expiries) (expired c.args.now) c.args.self.now c.args.due.now
    c.loop-op.self c.loop-op.due c.loop-op.invariant none
