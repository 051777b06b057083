use Rattle.std.specs.Prelude.{None}
use Rattle.io_rules.specs.declared.control.Control.TheVariants as control
use Rattle.io_rules.specs.declared.event.Event.TheVariants as event
use Rattle.io_scheduler.specs.Opened.{socket_kind}
use Rattle.io_scheduler.proofs.scheduler.Scheduler.close_alive.Given as goal

abbrev pub ghosts-note_closed : goal.ghosts-note_closed
ghosts-note_closed g a = record { event = event.Changed None (control.Free (socket_kind a.listener) a.name) }
