use Rattle.std.proofs.Common.{List, Bool, ap, get_or, sym, true, false, ◌∙◌}
use Rattle.std.proofs.lemmas.List.{get_or_default}
use Rattle.proactor_core.proofs.FollowsLemmas.{taken-alike}
use Rattle.proactor_core.proofs.proactor.Proactor.was_taken.Goals as goal

pub returns-clause-half : goal.returns-clause-half
returns-clause-half g c = λ half is.
    let within = rw (← c.self.view_is) at c.requires in
    let here = rw (← c.self.view_is) at is in
    c.was_taken.ensures ∙ get_or_default c.self.inside.tables.taken c.args.a true false within
    ∙ ap (λ (all : List Bool). get_or all c.args.a false) (sym (taken-alike g.X.Reactor.told _ half here))
