use Rattle.std.proofs.Common.{◌+◌, ◌-◌, arith, drop, length, refl}
use Rattle.std.proofs.lemmas.List.{length-drop, take_all}
use Rattle.trace_check.proofs.PartingLemmas.{first_parts, no_parting}
use Rattle.trace_check.proofs.parting.part.Goals as goal

pub returns-then-stands_at-clause-some : goal.returns-then-stands_at-clause-some
returns-then-stands_at-clause-some c =
    let input = c.args.input.now in
    let at = c.loop-at.at in
    rw (take_all (length input - (at + 3)) (drop (at + 3) input) (omega (arith, length-drop (at + 3) input)))
    (first_parts input at (omega arith) (c.if-stands_at.ensures.stands.0 refl) c.loop-at.invariant)

pub returns-clause-none : goal.returns-clause-none
returns-clause-none c = no_parting c.args.input.now (λ k below. c.loop-at.invariant k (omega arith))
