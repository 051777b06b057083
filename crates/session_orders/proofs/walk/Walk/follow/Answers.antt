use Rattle.std.proofs.Common.{◌≡◌, ◌+◌, true}
use Rattle.history_rules.specs.Legal.{state_of}
use Rattle.session_orders.specs.Count.{HasJoined, HasMoved}
use Rattle.session_orders.proofs.ComeLemmas.{if_ok}
use Rattle.session_orders.proofs.CountingLemmas.{moved_by}
use Rattle.session_orders.proofs.walk.Walk.follow.Goals as goal

pub returns-clause-moved : goal.returns-clause-moved
returns-clause-moved c =
    let script = c.args.self.now.script.now in
    let kind = c.args.self.now.kind in
    let path = c.args.self.now.path.items in
    let one = c.in_ok-one.one in
    let old = c.args.queue.now.items in
    let new = c.join.new.queue.items in
    if_ok (λ all. all ≡ true → HasJoined script kind one.replay.state one.times old new)
    (λ all. all ≡ true →
    HasMoved script kind (state_of script kind.told path) c.args.times old new c.args.self.now.place (c.args.self.now.place + 1))
    c.join.result c.join.ensures.joined
    (λ all joined is.
    moved_by script kind c.args.self.now.replay path c.args.event c.args.self.now.place c.args.times old new one
    c.requires.come c.requires.at c.in_ok-one.ensures.come c.in_ok-one.ensures.path c.in_ok-one.ensures.times (joined is))
