use Rattle.std.proofs.Common.{arith, ap, sym}
use Rattle.std.specs.Prelude.{drop}
use Rattle.std.proofs.lemmas.List.{get_or_read}
use Rattle.io_queues.specs.Queued.{place_first}
use Rattle.io_queues.proofs.ReadLemmas.{begin_link, begin_within, node_low, read_none, second_none, second_place}
use Rattle.io_queues.proofs.queues.Queues.second.Goals as goal

pub node_before-begin-requires : goal.node_before-begin-requires
node_before-begin-requires g c =
    node_low _ _ _ _ _ c.self.invariant c.args.queue (rw (← c.self.view_is) at c.requires)

pub index-front-requires : goal.index-front-requires
index-front-requires g c =
    let within = begin_within _ _ _ _ _ c.self.invariant c.args.queue c.node_before-begin.result
    (rw (← c.self.view_is) at c.requires) c.node_before-begin.ensures in
    omega (arith, within)

pub returns-then-front-self : goal.returns-then-front-self
returns-then-front-self g c =
    let queue = rw (← c.self.view_is) at c.requires in
    let read = begin_link _ _ _ _ _ c.self.invariant c.args.queue c.node_before-begin.result c.index-front.result.now queue
    c.node_before-begin.ensures c.index-front.ensures in
    rw (← c.self.view_is)
    (sym (ap (λ es. place_first (drop 1 es)) (read_none _ _ _ _ _ c.self.invariant c.args.queue queue c.index-front.result.now read (omega arith))))

pub index-behind-requires : goal.index-behind-requires
index-behind-requires g c =
    let many = c.self.invariant.links.ring.nexts in
    let rings = c.self.invariant.links.many in
    omega (arith, many, rings)

pub returns-then-behind-self : goal.returns-then-behind-self
returns-then-behind-self g c =
    let queue = rw (← c.self.view_is) at c.requires in
    let many = c.self.invariant.links.ring.nexts in
    let rings = c.self.invariant.links.many in
    let read = begin_link _ _ _ _ _ c.self.invariant c.args.queue c.node_before-begin.result c.index-front.result.now queue
    c.node_before-begin.ensures c.index-front.ensures in
    let more = get_or_read c.self.inside.next.items c.index-front.result.now c.index-behind.result.now
    (omega (arith, many, rings)) c.index-behind.ensures 0 in
    rw (← c.self.view_is)
    (sym (second_place _ _ _ _ _ c.self.invariant c.args.queue queue c.index-front.result.now c.index-behind.result.now
    read (omega arith) more (omega arith)))

pub returns : goal.returns
returns g c =
    let queue = rw (← c.self.view_is) at c.requires in
    let many = c.self.invariant.links.ring.nexts in
    let rings = c.self.invariant.links.many in
    let read = begin_link _ _ _ _ _ c.self.invariant c.args.queue c.node_before-begin.result c.index-front.result.now queue
    c.node_before-begin.ensures c.index-front.ensures in
    let more = get_or_read c.self.inside.next.items c.index-front.result.now c.index-behind.result.now
    (omega (arith, many, rings)) c.index-behind.ensures 0 in
    rw (← c.self.view_is)
    (sym (second_none _ _ _ _ _ c.self.invariant c.args.queue queue c.index-front.result.now c.index-behind.result.now
    read (omega arith) more (omega arith)))
