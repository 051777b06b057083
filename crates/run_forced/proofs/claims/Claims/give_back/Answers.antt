use Rattle.run_forced.proofs.ClaimLemmas.{claims_stay}
use Rattle.run_forced.proofs.claims.Claims.give_back.Goals as goal

pub returns-in_default : goal.returns-in_default
returns-in_default c = λ run legal here not are. claims_stay run c.args.place c.args.event.now c.args.self.now here not are

pub returns-then-not-event : goal.returns-then-not-event
returns-then-not-event c = λ run legal here not are. claims_stay run c.args.place c.args.event.now c.args.self.now here not are

pub returns : goal.returns
returns c = λ run legal here not are. c.in_ok-release.ensures run legal here c.in-Release.is c.if-not-event.false are
