use Rattle.std.proofs.Common.{◌≡◌, length, rules}
use Rattle.std.proofs.lemmas.List.{nil_from_length}
use Rattle.session_orders.proofs.CountLemmas.{leads_nowhere}
use Rattle.session_orders.proofs.CountingLemmas.{rest_came}
use Rattle.session_orders.proofs.counting.count_on.Goals as goal

pub returns-in_default : goal.returns-in_default
returns-in_default c =
    let none : length c.states.queue.items ≡ 0 = search rules in
    leads_nowhere c.args.script.now c.args.kind c.states.queue.items c.states.counted
    (nil_from_length c.states.queue.items none) c.states.invariant.leads

pub returns-then-is_empty : goal.returns-then-is_empty
returns-then-is_empty c =
    let none : length c.states.queue.items ≡ 0 = search rules in
    leads_nowhere c.args.script.now c.args.kind c.states.queue.items c.states.counted
    (nil_from_length c.states.queue.items none) c.states.invariant.leads

pub pass-requires-clause-have : goal.pass-requires-clause-have
pass-requires-clause-have c =
    rest_came c.args.script.now c.args.kind c.states.queue.items c.pop_front.new.self.items c.in-Some.one
    c.in-Some.ensures.items c.states.invariant.have
