use Rattle.std.proofs.Common.{ap, sym, ◌∙◌}
use Rattle.proactor_core.specs.Counts.{within_32_bits}
use Rattle.proactor_core.proofs.FollowsLemmas.{guards-alike}
use Rattle.proactor_core.proofs.proactor.Proactor.guards.Goals as goal

pub returns-clause-half : goal.returns-clause-half
returns-clause-half g c = λ half is.
    let here = rw (← c.self.view_is) at is in
    c.guards.ensures ∙ ap within_32_bits (sym (guards-alike g.X.Reactor.told _ half here))
