use Rattle.std.proofs.Common.{arith, ap, sym}
use Rattle.io_queues.specs.Queued.{place_first}
use Rattle.io_queues.proofs.ReadLemmas.{begin_link, begin_within, node_low, read_none, read_place}
use Rattle.io_queues.proofs.queues.Queues.first.Goals as goal

pub node_before-begin-requires : goal.node_before-begin-requires
node_before-begin-requires g c =
    node_low _ _ _ _ _ c.self.invariant c.args.queue (rw (← c.self.view_is) at c.requires)

pub index-front-requires : goal.index-front-requires
index-front-requires g c =
    let within = begin_within _ _ _ _ _ c.self.invariant c.args.queue c.node_before-begin.result
    (rw (← c.self.view_is) at c.requires) c.node_before-begin.ensures in
    omega (arith, within)

pub returns-then-front-self : goal.returns-then-front-self
returns-then-front-self g c =
    let queue = rw (← c.self.view_is) at c.requires in
    let read = begin_link _ _ _ _ _ c.self.invariant c.args.queue c.node_before-begin.result c.index-front.result.now queue
    c.node_before-begin.ensures c.index-front.ensures in
    rw (← c.self.view_is)
    (sym (read_place _ _ _ _ _ c.self.invariant c.args.queue queue c.index-front.result.now read (omega arith)))

pub returns : goal.returns
returns g c =
    let queue = rw (← c.self.view_is) at c.requires in
    let read = begin_link _ _ _ _ _ c.self.invariant c.args.queue c.node_before-begin.result c.index-front.result.now queue
    c.node_before-begin.ensures c.index-front.ensures in
    rw (← c.self.view_is)
    (sym (ap place_first (read_none _ _ _ _ _ c.self.invariant c.args.queue queue c.index-front.result.now read (omega arith))))
