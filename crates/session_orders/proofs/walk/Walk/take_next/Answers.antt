use Rattle.std.proofs.Common.{refl, sym, ◌∙◌}
use Rattle.session_orders.proofs.ComeLemmas.{come_at, come_taken, found_once, none_at, none_in_none, not_true, on_none}
use Rattle.history_rules.specs.Legal.{MayHappen}
use Rattle.session_orders.proofs.walk.Walk.take_next.Goals as goal

pub returns-in_err-event-clause-none : goal.returns-in_err-event-clause-none
returns-in_err-event-clause-none c =
    on_none c.from_residual.result
    (none_at c.args.self.now.script.now c.args.self.now.kind c.args.self.now.replay c.args.self.now.path.items
    c.args.self.now.place c.event_next.result c.requires.come (sym c.event_next.ensures)
    (λ event is may. none_in_none event (sym c.in_err-event.was ∙ is)))

pub returns-then-step-clause-taken : goal.returns-then-step-clause-taken
returns-then-step-clause-taken c =
    come_taken c.args.self.now.script.now c.args.self.now.kind c.args.self.now.replay c.step.new.self
    c.args.self.now.path.items c.args.self.now.place c.in_ok-event.event c.requires.come c.requires.within
    (sym c.event_next.ensures ∙ c.in_ok-event.was) (c.if-step.ensures.legal.0 refl) c.if-step.ensures.next
    c.if-step.ensures.script c.if-step.ensures.told

pub returns-then-step-clause-at : goal.returns-then-step-clause-at
returns-then-step-clause-at c =
    come_at c.args.self.now.script.now c.args.self.now.kind c.args.self.now.replay c.args.self.now.path.items
    c.args.self.now.place c.in_ok-event.event c.requires.come c.requires.within
    (sym c.event_next.ensures ∙ c.in_ok-event.was)

pub returns-else-step-clause-none : goal.returns-else-step-clause-none
returns-else-step-clause-none c =
    none_at c.args.self.now.script.now c.args.self.now.kind c.args.self.now.replay c.args.self.now.path.items
    c.args.self.now.place c.event_next.result c.requires.come (sym c.event_next.ensures)
    (λ event is may.
    not_true (c.if-step.ensures.legal.1
    (found_once (MayHappen c.args.self.now.replay.script c.args.self.now.replay.told c.args.self.now.replay.state)
    c.event_next.result c.in_ok-event.event event c.in_ok-event.was is may)))
