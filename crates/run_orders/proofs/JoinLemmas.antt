-- What a join keeps apart is held by one thread.
use Rattle.std.proofs.Common.{ℕ, List, sym, inl, ⊎_elim}
use Rattle.run_lines.specs.declared.line.Line.{Line}
use Rattle.run_rules.specs.Legal.{IsLegalSoFar}
use Rattle.run_orders.specs.declared.guard.Guard.{Guard}
use Rattle.run_orders.specs.declared.guard.Guard.TheVariants as guard
use Rattle.run_orders.specs.declared.order.Step.{Step}
use Rattle.run_orders.specs.Forced.{through}
use Rattle.run_orders.specs.Holding.{HoldsBoth}
use Rattle.run_orders.specs.Joins.{JoinsAll}
use Rattle.run_orders.specs.Laws.{NeverOverlaps}
use Rattle.run_orders.specs.Orders.{plain}
use Rattle.run_orders.proofs.ForcedLemmas.{forced_apart}
use Rattle.run_orders.proofs.GuardLemmas.{guarded_apart}

-- it is the same which of two claims is named first
pub turned : (run : List Line) (steps : List Step) (thing one other : ℕ) → HoldsBoth run steps thing one other
    → HoldsBoth run steps thing other one
turned run steps thing one other holds = record {
  first = holds.second;
  second = holds.first;
  apart = λ e. holds.apart (sym e);
  held = holds.held_too;
  held_too = holds.held;
}

pub joins_suffice : (run : List Line) (how : Guard) (thread place thing : ℕ) → IsLegalSoFar plain run
    → JoinsAll run how thread place thing → NeverOverlaps run thing
joins_suffice run how thread place thing legal all apart steps one other order holds =
    let x = holds.held in
    let y = holds.held_too in
    ⊎_elim
    (λ before.
    ⊎_elim
    (λ before_too. guarded_apart run apart steps how thing one other x.claim y.claim legal order x.there y.there before.0 before_too.0 holds)
    (λ behind_too.
    let over = before.1 in
    forced_apart run apart steps thing one other over.at x.claim over.later legal order x.there over.there over.gives
    (through place over.forced behind_too.forced) holds)
    (all other y.claim y.there y.claims))
    (λ behind.
    ⊎_elim
    (λ before_too.
    let over = before_too.1 in
    forced_apart run apart steps thing other one over.at y.claim over.later legal order y.there over.there over.gives
    (through place over.forced behind.forced) (turned run steps thing one other holds))
    (λ behind_too.
    guarded_apart run apart steps (guard.Thread thread) thing one other x.claim y.claim legal order x.there y.there
    (inl behind.outside) (inl behind_too.outside) holds) (all other y.claim y.there y.claims))
    (all one x.claim x.there x.claims)
