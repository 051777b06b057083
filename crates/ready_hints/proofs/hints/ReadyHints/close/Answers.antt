use Rattle.std.proofs.Common.{subst}
use Rattle.ready_hints.specs.Hints.{Passed, HasAllParts, HasLeft, IsOnce}
use Rattle.ready_hints.proofs.HintLemmas.{learns}
use Rattle.ready_hints.proofs.hints.ReadyHints.close.Goals as goal

pub len_as-requires-clause-rule : goal.len_as-requires-clause-rule
len_as-requires-clause-rule g c = learns _ _

pub returns-clause-left : goal.returns-clause-left
returns-clause-left g c = subst (λ (p : Passed). HasAllParts p → HasLeft c.len_as.result p) c.pass.view_is
    (λ all. let held = c.len_as.ensures.rule in (held.0, held.1, held.2.1 all)) c.requires.all

pub returns-clause-once : goal.returns-clause-once
returns-clause-once g c = subst IsOnce c.pass.view_is c.len_as.ensures.rule.2.0.0
