use Rattle.std.proofs.Common.{refl}
use Rattle.session_orders.proofs.ComeLemmas.{now_open, now_seen, now_whole, not_true}
use Rattle.session_orders.proofs.walk.Walk.enter.Goals as goal

pub returns-then-whole-clause-passed : goal.returns-then-whole-clause-passed
returns-then-whole-clause-passed c listed passed =
    now_whole c.args.self.now.script.now c.args.self.now.kind c.args.self.now.replay c.args.self.now.path.items
    c.push.new.self.items c.args.self.now.place c.args.event listed c.in_ok-push.ensures.items c.requires.at
    c.requires.come (c.if-whole.ensures.0 refl) passed

pub returns-else-whole-clause-passed : goal.returns-else-whole-clause-passed
returns-else-whole-clause-passed c listed passed =
    now_open c.args.self.now.script.now c.args.self.now.kind c.args.self.now.replay c.args.self.now.path.items
    c.push.new.self.items c.args.self.now.place c.args.event listed c.in_ok-push.ensures.items c.requires.at
    c.requires.come (λ whole. not_true (c.if-whole.ensures.1 whole)) passed

pub returns-then-whole-clause-seen : goal.returns-then-whole-clause-seen
returns-then-whole-clause-seen c seen before =
    now_seen c.args.self.now.script.now c.args.self.now.kind c.args.self.now.replay c.args.self.now.path.items
    c.push.new.self.items c.args.self.now.place c.args.event seen c.in_ok-push.ensures.items c.requires.at
    c.requires.come before

pub returns-else-whole-clause-seen : goal.returns-else-whole-clause-seen
returns-else-whole-clause-seen c seen before =
    now_seen c.args.self.now.script.now c.args.self.now.kind c.args.self.now.replay c.args.self.now.path.items
    c.push.new.self.items c.args.self.now.place c.args.event seen c.in_ok-push.ensures.items c.requires.at
    c.requires.come before
