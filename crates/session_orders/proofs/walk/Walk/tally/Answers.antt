use Rattle.std.proofs.Common.{◌≡◌, ◌+◌, refl}
use Rattle.session_orders.specs.Count.{HasPassed}
use Rattle.session_orders.proofs.ComeLemmas.{if_some, not_true}
use Rattle.session_orders.proofs.CountingLemmas.{passed_if_open, passed_if_whole}
use Rattle.session_orders.proofs.walk.Walk.tally.Goals as goal

pub returns-then-whole-clause-passed : goal.returns-then-whole-clause-passed
returns-then-whole-clause-passed c =
    let script = c.args.self.now.script.now in
    let kind = c.args.self.now.kind in
    let replay = c.args.self.now.replay in
    let old = c.args.queue.now.items in
    let new = c.spread.new.queue.items in
    if_some (λ total. total ≡ c.args.counted + c.args.times)
    (λ total. HasPassed script kind replay.state c.args.times old new c.args.counted total) c.sum_of.result
    c.sum_of.ensures
    (λ total is.
    passed_if_whole script kind replay c.args.self.now.path.items c.args.times c.args.counted total old new
    c.requires.come (c.if-whole.ensures.0 refl) is (c.in_ok-all.ensures.moved c.if-not-all.false))

pub returns-else-whole-clause-passed : goal.returns-else-whole-clause-passed
returns-else-whole-clause-passed c =
    passed_if_open c.args.self.now.script.now c.args.self.now.kind c.args.self.now.replay c.args.self.now.path.items
    c.args.times c.args.counted c.args.queue.now.items c.spread.new.queue.items c.requires.come
    (λ whole. not_true (c.if-whole.ensures.1 whole)) (c.in_ok-all.ensures.moved c.if-not-all.false)
