use Rattle.std.proofs.Common.{subst}
use Rattle.session_orders.specs.Count.{HasJoined}
use Rattle.session_orders.proofs.CountingLemmas.{have_push, have_set, joined_push, joined_set}
use Rattle.session_orders.proofs.reaching.join.Goals as goal

pub returns-in-Some-clause-have : goal.returns-in-Some-clause-have
returns-in-Some-clause-have c is =
    let there = c.add_at.ensures is c.args.one in
    have_set c.args.script.now c.args.kind c.args.queue.now.items c.add_at.new.queue.items c.in-Some.at
    c.times-times.result c.args.one there.0 there.1 c.requires.have

pub returns-in-Some-clause-joined : goal.returns-in-Some-clause-joined
returns-in-Some-clause-joined c is =
    let there = c.add_at.ensures is c.args.one in
    subst
    (λ n. HasJoined c.args.script.now c.args.kind c.args.one.replay.state n c.args.queue.now.items
    c.add_at.new.queue.items)
    c.times-times.ensures
    (joined_set c.args.script.now c.args.kind c.args.queue.now.items c.add_at.new.queue.items c.in-Some.at
    c.times-times.result c.args.one there.0 there.1 (c.in-Some.ensures.same c.args.one))

pub returns-in_ok-push_back-in-None-clause-have : goal.returns-in_ok-push_back-in-None-clause-have
returns-in_ok-push_back-in-None-clause-have c is =
    have_push c.args.script.now c.args.kind c.args.queue.now.items c.push_back.new.self.items c.args.one
    c.in_ok-push_back-in-None.ensures.items c.requires.have c.requires.come

pub returns-in_ok-push_back-in-None-clause-joined : goal.returns-in_ok-push_back-in-None-clause-joined
returns-in_ok-push_back-in-None-clause-joined c is =
    joined_push c.args.script.now c.args.kind c.args.queue.now.items c.push_back.new.self.items c.args.one
    c.in_ok-push_back-in-None.ensures.items
