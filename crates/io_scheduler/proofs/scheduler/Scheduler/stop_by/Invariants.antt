use Rattle.std.specs.Prelude.{Some}
use Rattle.io_rules.specs.declared.control.Control.TheVariants as control
use Rattle.io_rules.specs.declared.event.Event.TheVariants as event
use Rattle.io_scheduler.proofs.scheduler.Scheduler.stop_by.Given as goal

abbrev pub ghosts-note_stopped_by : goal.ghosts-note_stopped_by
ghosts-note_stopped_by g a = record { event = event.Changed (Some a.by) control.Stop }
