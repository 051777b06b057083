use Rattle.run_joins.proofs.HandingLemmas.{chain_met, chain_on}
use Rattle.run_joins.proofs.handing.Chain.see.Goals as goal

pub returns-then-not-claims-clause-chain : goal.returns-then-not-claims-clause-chain
returns-then-not-claims-clause-chain c = λ run past line legal yes known chain.
    chain_on run past line c.args.note.now c.args.self.now c.go_on.new.self known chain (c.claims.ensures.no c.if-not-claims.true)
    c.go_on.ensures.thing c.go_on.ensures.met c.in_ok-go_on.ensures.kept

pub returns-clause-chain : goal.returns-clause-chain
returns-clause-chain c = λ run past line legal yes known chain.
    chain_met run past line c.args.note.now c.args.self.now c.meet.new.self legal known chain (c.claims.ensures.yes c.if-not-claims.false)
    (c.is_given_back.ensures c.if-not-is_given_back.false) c.meet.ensures.thing c.in_ok-meet.ensures.met c.in_ok-meet.ensures.fresh
