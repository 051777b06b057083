use Rattle.run_forced.proofs.ClaimLemmas.{claims_mixed}
use Rattle.run_forced.proofs.claims.Claims.claim.Goals as goal

pub returns : goal.returns
returns c = λ run place followed before here does are.
    claims_mixed run place c.args.thing c.args.event.now c.args.self.now c.mix.new.self
    (record { last = c.insert.new.self; mixed = c.mix.new.self.mixed }) here does c.mix.ensures.last c.in_ok-insert.ensures.updates.0
    c.in_ok-mix.ensures.mixed (λ unmixed. c.is_free-free.ensures (c.in_ok-mix.ensures.free unmixed) run place followed before) are
