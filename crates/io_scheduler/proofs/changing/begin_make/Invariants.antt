use Rattle.std.specs.Prelude.{Some}
use Rattle.io_rules.specs.declared.control.Control.TheVariants as control
use Rattle.io_rules.specs.declared.event.Event.TheVariants as event
use Rattle.io_scheduler.proofs.changing.begin_make.Given as goal

abbrev pub ghosts-note_made_by : goal.ghosts-note_made_by
ghosts-note_made_by g a = record { event = event.Changed (Some a.by) (control.Make a.kind a.name) }
