use Rattle.proactor_core.proofs.FollowsLemmas.{stands-alike}
use Rattle.proactor_core.proofs.proactor.Proactor.into_reactor.Goals as goal

pub returns-clause-stands : goal.returns-clause-stands
returns-clause-stands g c = λ half sound is.
    let here = rw (← c.self.view_is) at is in
    let whole = rw (← c.self.view_is) at sound in
    stands-alike g.X.Reactor.told _ half here g.X.Reactor.state whole
