use Rattle.std.specs.Prelude.{Some}
use Rattle.io_rules.specs.declared.control.Control.TheVariants as control
use Rattle.io_rules.specs.declared.event.Event.TheVariants as event
use Rattle.io_scheduler.specs.Opened.{socket_kind}
use Rattle.io_scheduler.proofs.closing_by.begin_close.Given as goal

abbrev pub ghosts-note_closed_by : goal.ghosts-note_closed_by
ghosts-note_closed_by g a = record { event = event.Changed (Some a.by) (control.Free (socket_kind a.listener) a.name) }
