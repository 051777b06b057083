use Rattle.std.specs.Prelude.{None}
use Rattle.io_rules.specs.declared.control.Control.TheVariants as control
use Rattle.io_rules.specs.declared.event.Event.TheVariants as event
use Rattle.io_scheduler.proofs.scheduler.Scheduler.hold.Given as goal

abbrev pub ghosts-note_section : goal.ghosts-note_section
ghosts-note_section g a = record { event = event.Changed None control.Hold }
