use Rattle.std.proofs.Common.{IfSome, IfNone, subst}
use Rattle.ready_hints.specs.Hints.{Passed, hint_passed, HasAllParts, IsWithinHints, IsPassSettled}
use Rattle.ready_hints.proofs.HintLemmas.{pops, learns}
use Rattle.ready_hints.proofs.PassLemmas.{knows_once, some_hinted, none_settled}
use Rattle.ready_hints.proofs.hints.ReadyHints.next_hint.Goals as goal

pub pop_as-requires-clause-rule : goal.pop_as-requires-clause-rule
pop_as-requires-clause-rule g c = (pops _ _ c.pass.invariant.part, learns _ _)

pub returns-clause-once : goal.returns-clause-once
returns-clause-once g c =
    (knows_once c.pop_as.result c.pass.inside.pass.me.view.client c.pop_as.new.pass.me.view.client _ c.pop_as.ensures.rule).0

pub returns-clause-same : goal.returns-clause-same
returns-clause-same g c =
    (knows_once c.pop_as.result c.pass.inside.pass.me.view.client c.pop_as.new.pass.me.view.client _ c.pop_as.ensures.rule).1

pub returns-clause-hinted : goal.returns-clause-hinted
returns-clause-hinted g c =
    subst
    (λ (p : Passed).
    IfSome c.pop_as.result (λ _. HasAllParts p → IsWithinHints (hint_passed record { pass = c.pop_as.new.pass })))
    c.pass.view_is
    (some_hinted c.pop_as.result c.pass.inside.pass.me.view.client c.pop_as.new.pass.me.view.client _ c.pop_as.ensures.rule)

pub returns-clause-empty : goal.returns-clause-empty
returns-clause-empty g c =
    subst (λ (p : Passed). IfNone c.pop_as.result (HasAllParts p → IsPassSettled p)) c.pass.view_is
    (none_settled c.pop_as.result c.pass.inside.pass.me.view.client c.pop_as.new.pass.me.view.client _ c.pop_as.ensures.rule)
