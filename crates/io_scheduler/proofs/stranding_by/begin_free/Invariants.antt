use Rattle.std.specs.Prelude.{Some}
use Rattle.io_rules.specs.declared.control.Control.TheVariants as control
use Rattle.io_rules.specs.declared.event.Event.TheVariants as event
use Rattle.io_rules.specs.declared.name.Kind.TheVariants as kind
use Rattle.io_scheduler.proofs.stranding_by.begin_free.Given as goal

abbrev pub ghosts-note_freed_by : goal.ghosts-note_freed_by
ghosts-note_freed_by g a = record { event = event.Changed (Some a.by) (control.Free kind.Strand a.name) }
