use Rattle.io_timers.proofs.TimersLemmas.{none_kept, none_seen}
use Rattle.io_timers.proofs.timers.Timers.make.Goals as goal

pub invariant_of-result : goal.invariant_of-result
invariant_of-result g c =
    rw (c.in_ok-expiries.ensures.items_if_clones_equal (λ y same. same), c.in_ok-firsts.ensures, c.in_ok-queues.ensures)
    (none_kept c.args.timers)

pub returns : goal.returns
returns g c =
    rw (c.in_ok-expiries.ensures.items_if_clones_equal (λ y same. same), c.in_ok-queues.ensures)
    (none_seen c.args.timers c.args.room)
