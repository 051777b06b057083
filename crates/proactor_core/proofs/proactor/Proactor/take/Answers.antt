use Rattle.std.proofs.Common.{subst, ◌∙◌}
use Rattle.history_rules.specs.Performing.{performed}
use Rattle.history_rules.specs.Settling.{settled}
use Rattle.proactor_core.specs.Proactor.{Follows}
use Rattle.proactor_core.proofs.FollowsLemmas.{guards-performed, on-ok, performs-in-turn}
use Rattle.proactor_core.proofs.proactor.Proactor.take.Goals as goal

pub returns-clause-follows : goal.returns-clause-follows
returns-clause-follows g c =
    let old = c.args.self.now in
    let acts = c.perform.ensures in
    on-ok c.settle.result (λ settles half is.
    let taken =
    performs-in-turn g.X.Reactor.told old c.perform.new.self c.args.a acts.formed acts.tells acts.script acts.follows
    c.requires.nothing_due half is in
    let after = settles (performed old.script c.args.a half) taken in
    subst (λ t. Follows g.X.Reactor.told c.settle.new.self (settled t (performed old.script c.args.a half))) acts.tells after) c.settle.ensures.follows

pub returns-clause-guards : goal.returns-clause-guards
returns-clause-guards g c = λ half is.
    let acts = c.perform.ensures in
    c.settle.ensures.guards
    ∙ guards-performed g.X.Reactor.told c.args.self.now c.perform.new.self c.args.a acts.formed acts.tells acts.script
    acts.follows c.requires.nothing_due half is
