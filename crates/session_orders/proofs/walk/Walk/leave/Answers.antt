use Rattle.std.proofs.Common.{◌≡◌, ◌+◌, ap, subst, sym, ◌∙◌}
use Rattle.history_rules.specs.Legal.{state_of}
use Rattle.session_orders.specs.Walk.{ArePassed, AreSeen}
use Rattle.session_orders.proofs.ComeLemmas.{back_seen, come_back, front_legal, now_back}
use Rattle.session_orders.proofs.walk.Walk.leave.Goals as goal

pub replay_of-requires : goal.replay_of-requires
replay_of-requires c =
    front_legal c.args.self.now.script.now c.args.self.now.kind c.args.self.now.replay c.args.self.now.path.items
    c.as_slice.result.now c.in-Some.event c.requires.come (rw (c.as_slice.ensures.value) c.in-Some.ensures.items)

pub returns-clause-come : goal.returns-clause-come
returns-clause-come c =
    come_back c.args.self.now.script.now c.args.self.now.kind c.args.self.now.replay c.in_ok-self.field-0
    c.args.self.now.path.items c.pop.new.self.items c.in-Some.event c.requires.come c.in-Some.ensures.items
    c.in_ok-self.ensures.script c.in_ok-self.ensures.told
    (c.in_ok-self.ensures.state
    ∙ ap (state_of c.args.self.now.script.now c.args.self.now.kind.told) c.as_slice.ensures.value)

pub returns-clause-passed : goal.returns-clause-passed
returns-clause-passed c listed passed =
    subst (λ n. ArePassed c.args.self.now.script.now c.args.self.now.kind c.pop.new.self.items (n + 1) listed)
    (sym c.place.ensures.place)
    (now_back c.args.self.now.script.now c.args.self.now.kind c.args.self.now.replay c.args.self.now.path.items
    c.pop.new.self.items c.args.self.now.place c.in-Some.event listed c.requires.come c.in-Some.ensures.items
    c.requires.past passed)

pub returns-clause-seen : goal.returns-clause-seen
returns-clause-seen c seen before =
    subst (λ n. AreSeen c.args.self.now.script.now c.args.self.now.kind c.pop.new.self.items (n + 1) seen)
    (sym c.place.ensures.place)
    (back_seen c.args.self.now.script.now c.args.self.now.kind c.args.self.now.path.items c.pop.new.self.items
    c.args.self.now.place c.in-Some.event seen c.in-Some.ensures.items before)
