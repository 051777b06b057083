use Rattle.std.specs.Prelude.{Some}
use Rattle.io_rules.specs.declared.event.Event.TheVariants as event
use Rattle.io_scheduler.specs.Timing.{control_of}
use Rattle.io_scheduler.proofs.changing.begin_change.Given as goal

abbrev pub ghosts-note_change_by : goal.ghosts-note_change_by
ghosts-note_change_by g a = record { event = event.Changed (Some a.by) (control_of a.timer a.change) }
