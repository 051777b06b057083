use Rattle.run_check.specs.declared.queues.Queues.{Queues}
use Rattle.run_check.specs.Queues.{spot_at, at_spot}
use Rattle.run_check.proofs.QueueLemmas.{AreInverse, inverse_put}
use Rattle.run_check.proofs.queues.Queues.put.Goals as goal

pub returns-clause-ordered : goal.returns-clause-ordered
returns-clause-ordered c = λ ordered absent unused.
    let kept : Queues = record { spots = c.put.new.table; order = c.put_in_order.new.order } in
    let inverse : AreInverse (spot_at kept) (at_spot kept) =
    inverse_put (spot_at c.args.self.now) (spot_at kept) (at_spot c.args.self.now) (at_spot kept) c.args.op
    (c.args.strand, c.args.place)
    (record { found = ordered.found; stands = ordered.stands }) absent unused
    c.in_ok-put.ensures c.in_ok-put_in_order.ensures.0 in
    record { found = inverse.found; stands = inverse.stands }
