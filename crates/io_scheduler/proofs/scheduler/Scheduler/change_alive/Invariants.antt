use Rattle.std.specs.Prelude.{None}
use Rattle.io_rules.specs.declared.event.Event.TheVariants as event
use Rattle.io_scheduler.specs.Timing.{control_of}
use Rattle.io_scheduler.proofs.scheduler.Scheduler.change_alive.Given as goal

abbrev pub ghosts-note_change : goal.ghosts-note_change
ghosts-note_change g a = record { event = event.Changed None (control_of a.timer a.change) }
