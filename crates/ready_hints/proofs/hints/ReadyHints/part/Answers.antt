use Rattle.std.proofs.Common.{◌<◌, ap, sym, subst}
use Rattle.ready_hints.specs.Hints.{Passed}
use Rattle.ready_hints.proofs.HintLemmas.{forks}
use Rattle.ready_hints.proofs.hints.ReadyHints.part.Goals as goal

pub another-requires-clause-rule : goal.another-requires-clause-rule
another-requires-clause-rule c =
    forks _ _ (subst (λ n. 1 < n) (ap (λ (p : Passed). p.parts) (sym c.pass.view_is)) c.requires.parts)
