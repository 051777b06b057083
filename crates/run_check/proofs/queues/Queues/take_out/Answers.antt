use Rattle.std.proofs.Common.{sym}
use Rattle.run_check.specs.declared.queues.Queues.{Queues}
use Rattle.run_check.specs.Queues.{spot_at, at_spot}
use Rattle.run_check.proofs.QueueLemmas.{AreInverse, inverse_take_out}
use Rattle.run_check.proofs.queues.Queues.take_out.Goals as goal

pub returns-in-Some-clause-ordered : goal.returns-in-Some-clause-ordered
returns-in-Some-clause-ordered c = λ ordered.
    let kept : Queues = record { spots = c.remove.new.self; order = c.remove-in-Some.new.self } in
    let inverse : AreInverse (spot_at kept) (at_spot kept) =
    inverse_take_out (spot_at c.args.self.now) (spot_at kept) (at_spot c.args.self.now) (at_spot kept) c.args.op c.in-Some.spot
    (record { found = ordered.found; stands = ordered.stands }) (sym c.in-Some.ensures.value)
    c.in-Some.ensures.updates.0 c.remove-in-Some.ensures.updates.0 in
    record { found = inverse.found; stands = inverse.stands }
