use Rattle.std.proofs.Common.{◌≡◌, None, ap, arith, ◌∙◌}
use Rattle.std.specs.Prelude.{replicate}
use Rattle.io_queues.proofs.MadeLemmas.{made_queued, made_seen}
use Rattle.io_queues.proofs.queues.Queues.make.Goals as goal

pub invariant_of-result : goal.invariant_of-result
invariant_of-result g c =
    let many : c.loop.counter ≡ c.args.places = omega arith in
    made_queued c.args.places c.args.queues c.in-Some.last c.in_ok-next.next.items c.in_ok-before.before.items (omega arith)
    c.in_ok-next.ensures c.in_ok-before.ensures c.loop.items.items
    (c.loop.invariant.made ∙ ap (λ n. replicate n None) many)

pub returns : goal.returns
returns g c =
    let many : c.loop.counter ≡ c.args.places = omega arith in
    made_seen c.args.places c.args.queues c.in-Some.last c.in_ok-next.next.items c.in_ok-before.before.items (omega arith)
    c.in_ok-next.ensures c.in_ok-before.ensures c.loop.items.items
    (c.loop.invariant.made ∙ ap (λ n. replicate n None) many)
