use Rattle.std.proofs.Common.{arith}
use Rattle.history_book.proofs.EventsLemmas.{AreEvents-push}
use Rattle.history_book.proofs.history.History.push_reserved.Goals as goal

pub invariant_of-self : goal.invariant_of-self
invariant_of-self c =
    let h = c.self.inside in
    let pushed = c.push_reserved.ensures in
    let room = c.self.invariant.0 in
    let spare = rw (← c.self.view_is) at c.requires in (
      omega (arith, pushed.len, pushed.capacity, room, spare),
      rw pushed.items (AreEvents-push h.events.items c.args.event c.self.invariant.1 c.numbers_fit.ensures),
    )
