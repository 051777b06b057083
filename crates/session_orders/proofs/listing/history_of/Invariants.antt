use Rattle.std.proofs.Common.{◌≡◌, ◌+◌, length, take}
use Rattle.session_orders.proofs.listing.history_of.Given as goal

abbrev pub invariant-loop-event : goal.invariant-loop-event
invariant-loop-event l =
    record {
      events : l.history.events ≡ take l.event-index l.events;
      spare : l.history.spare + l.event-index ≡ length l.events;
    }
