use Rattle.std.proofs.Common.{◌≡◌, List, inl, inr, subst, ⊎_elim, get_or}
use Rattle.std.proofs.lemmas.List.Elements.{Contains-get_or}
use Rattle.std.specs.List.{Contains}
use Rattle.run_forced.specs.declared.clock.Seen.{Seen}
use Rattle.run_forced.proofs.clock.Clock.merged.Goals as goal

pub loop-seen-preserved : goal.loop-seen-preserved
loop-seen-preserved c = λ seen named.
    ⊎_elim
    (λ below.
    ⊎_elim (λ was. c.loop-seen.invariant seen was)
    (λ own. inl (subst (λ (l : List Seen). Contains l seen) c.deref.ensures.value own)) (c.in_ok-at.ensures seen below))
    (λ rest.
    ⊎_elim (λ own. inl (subst (λ (l : List Seen). Contains l seen) c.deref-in-loop-seen.ensures.value own))
    (λ (same : get_or c.args.other.now c.loop-seen.seen-index (record { chain = 0; place = 0 }) ≡ seen).
    inr (subst (λ (s : Seen). Contains c.args.other.now s) same
    (Contains-get_or c.args.other.now c.loop-seen.seen-index (record { chain = 0; place = 0 }) c.loop-seen-test.true))) rest)
    (c.in_ok-at-2.ensures seen named)

pub returns : goal.returns
returns c = λ seen named.
    ⊎_elim (λ was. c.loop-seen.invariant seen was)
    (λ own. inl (subst (λ (l : List Seen). Contains l seen) c.deref-2.ensures.value own)) (c.in_ok-keep_below.ensures seen named)
