use Rattle.std.specs.Prelude.{None}
use Rattle.io_rules.specs.declared.control.Control.TheVariants as control
use Rattle.io_rules.specs.declared.event.Event.TheVariants as event
use Rattle.io_rules.specs.declared.name.Kind.TheVariants as kind
use Rattle.io_scheduler.proofs.scheduler.Scheduler.make_timer.Given as goal

abbrev pub ghosts-note_named : goal.ghosts-note_named
ghosts-note_named g a = record { event = event.Changed None (control.Make kind.Timer a.name) }
