use Rattle.std.proofs.Common.{List, inl, inr, subst, ⊎_elim}
use Rattle.std.specs.List.{Contains}
use Rattle.run_forced.specs.declared.clock.Seen.{Seen}
use Rattle.run_forced.proofs.clock.Clock.merge.Goals as goal

pub returns : goal.returns
returns c = λ seen named.
    ⊎_elim (λ own. inl own) (λ other. inr (subst (λ (l : List Seen). Contains l seen) c.deref.ensures.value other))
    (c.in_ok-merged.ensures seen (c.in_ok-self.ensures seen named))
