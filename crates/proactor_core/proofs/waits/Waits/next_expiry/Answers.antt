use Rattle.proactor_core.proofs.LeastLemmas.{next-expiry}
use Rattle.proactor_core.proofs.waits.Waits.next_expiry.Goals as goal

pub returns : goal.returns
returns c =
    rw (← c.self.view_is) (next-expiry c.self.inside.expiries.items c.self.inside.timer_of.items
    c.self.inside.queue.waits c.next_expiry.result (λ k d b. (c.self.invariant.each k d b).expiry)
    c.next_expiry.ensures.none.0 c.next_expiry.ensures.there c.next_expiry.ensures.least)
