use Rattle.run_forced.proofs.claims.Claims.follow.Goals as goal

pub returns-in-Some : goal.returns-in-Some
returns-in-Some c = λ run legal followed before here are.
    c.in_ok-claim.ensures run c.args.place followed before here c.in-Some.ensures.thing are

pub returns : goal.returns
returns c = λ run legal followed before here are. c.in_ok-give_back.ensures run legal here c.in_default.ensures.none are
