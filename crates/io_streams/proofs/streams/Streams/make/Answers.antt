use Rattle.std.proofs.Common.{◌≡◌, ◌*◌, ◌^◌, ◌<◌, arith}
use Rattle.io_streams.proofs.KeptLemmas.{none_kept, none_seen}
use Rattle.io_streams.proofs.streams.Streams.make.Goals as goal

pub invariant_of-result : goal.invariant_of-result
invariant_of-result g c =
    let is : c.in-Some.queues ≡ c.args.streams * 3 = omega arith in
    let small : c.args.streams * 3 < 2 ^ 32 = omega arith in
    rw (c.in_ok-streams.ensures.items_if_clones_equal (λ y same. same), c.in_ok-queues.ensures)
    (none_kept g.row.T.Denot c.args.streams c.in-Some.queues is small)

pub returns : goal.returns
returns g c =
    let is : c.in-Some.queues ≡ c.args.streams * 3 = omega arith in
    rw (c.in_ok-streams.ensures.items_if_clones_equal (λ y same. same), c.in_ok-queues.ensures)
    (none_seen g.row.T.Denot c.args.streams c.in-Some.queues c.args.room is)
