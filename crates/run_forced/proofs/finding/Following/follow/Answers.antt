use Rattle.run_forced.proofs.finding.Following.follow.Goals as goal

pub returns : goal.returns
returns c = λ run legal here followed.
    let before = c.in_ok-clock.ensures run c.args.place followed.past here in
    record {
      past = c.in_ok-follow-2.ensures run here followed.past before;
      claims = c.in_ok-follow.ensures run legal followed.past before here followed.claims;
    }
