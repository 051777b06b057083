use Rattle.std.proofs.Common.{List, reverse, subst, sym}
use Rattle.run_forced.specs.declared.event.Event.{Event}
use Rattle.run_forced.specs.Events.{AreEvents}
use Rattle.run_overlaps.proofs.handed.find_handed.Goals as goal

pub returns-in-Ok : goal.returns-in-Ok
returns-in-Ok c =
    c.in-Ok.ensures (reverse c.args.lines.now) c.in_ok-events.ensures.legal
    (subst (λ (events : List Event). AreEvents (reverse c.args.lines.now) (reverse events)) (sym c.deref.ensures.value)
    c.in_ok-events.ensures.events)
