use Rattle.std.proofs.Common.{◌≡◌, ◌≤◌, ◌+◌, length, take}
use Rattle.order_questions.specs.Handlers.{handlers_in}
use Rattle.order_questions.proofs.handlers.handlers_in.Given as goal

abbrev pub invariant-loop-event : goal.invariant-loop-event
invariant-loop-event l =
    record {
      events : l.shown.events ≡ handlers_in (take l.event-index l.events);
      spare : length l.events ≤ l.shown.spare + l.event-index;
    }
