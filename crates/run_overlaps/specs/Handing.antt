-- What is known of the lines that were followed, with their strands.
use Rattle.std.specs.Prelude.{List, reverse}
use Rattle.run_lines.specs.declared.line.Line.{Line}
use Rattle.run_forced.specs.declared.event.Event.{Event}
use Rattle.run_forced.specs.Events.{AreEvents}
use Rattle.run_overlaps.specs.declared.watch.Watch.{Watch}
use Rattle.run_overlaps.specs.Watching.{IsWatch}

-- these lines were followed, and these are their events, the oldest first
pub record HasSeenEvents (past : List Line) (watch : Watch) (events : List Event) : Type 0 where
  pub watches : IsWatch past watch
  pub events_are : AreEvents past (reverse events)
