use Rattle.std.proofs.Common.{◌∙◌, true, ap}
use Rattle.std.specs.Option.{option_map}
use Rattle.history_rules.specs.State.{ReactorHalf}
use Rattle.reactor_trait.specs.Reactor.{outside_ready, state_ready}
use Rattle.proactor_core.proofs.StartLemmas.{follows-first, sound-first}
use Rattle.proactor_core.proofs.proactor.Proactor.start.Goals as goal

pub returns-in-Ok-set_up-clause-sound : goal.returns-in-Ok-set_up-clause-sound
returns-in-Ok-set_up-clause-sound g c =
    let parts = c.in-Ok.parts in
    let ready = c.in-Ok-set_up.ensures.ready ∙ ap state_ready c.world.ensures in
    let told_ready =
    c.in-Ok-set_up.ensures.told_ready
    ∙ ap (λ w. option_map (λ _. outside_ready w) (g.X.Reactor.told c.args.reactor)) c.world.ensures in
    sound-first c.args.script.now parts.0 parts.1 c.in-Ok.ensures g.X.Reactor.state g.X.Reactor.told c.args.reactor
    c.set_up.new.self ready told_ready c.scripts_are_well_formed.ensures

pub returns-in-Ok-set_up-clause-taken : goal.returns-in-Ok-set_up-clause-taken
returns-in-Ok-set_up-clause-taken g c = ap (λ (h : ReactorHalf). h.taken) (c.in-Ok.ensures.half true)

pub returns-in-Ok-set_up-clause-nothing_due : goal.returns-in-Ok-set_up-clause-nothing_due
returns-in-Ok-set_up-clause-nothing_due g c = ap (λ (h : ReactorHalf). h.due) (c.in-Ok.ensures.half true)

pub returns-in-Ok-set_up-clause-working : goal.returns-in-Ok-set_up-clause-working
returns-in-Ok-set_up-clause-working g c = ap (λ (h : ReactorHalf). h.failed) (c.in-Ok.ensures.half true)

pub returns-in-Ok-set_up-clause-follows : goal.returns-in-Ok-set_up-clause-follows
returns-in-Ok-set_up-clause-follows g c =
    let parts = c.in-Ok.parts in
    let ready = c.in-Ok-set_up.ensures.ready ∙ ap state_ready c.world.ensures in
    let told_ready =
    c.in-Ok-set_up.ensures.told_ready
    ∙ ap (λ w. option_map (λ _. outside_ready w) (g.X.Reactor.told c.args.reactor)) c.world.ensures in
    follows-first c.args.script.now parts.0 parts.1 c.in-Ok.ensures g.X.Reactor.state g.X.Reactor.told c.args.reactor
    c.set_up.new.self ready told_ready
