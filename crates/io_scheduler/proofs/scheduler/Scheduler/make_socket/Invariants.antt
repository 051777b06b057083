use Rattle.std.specs.Prelude.{None}
use Rattle.io_rules.specs.declared.control.Control.TheVariants as control
use Rattle.io_rules.specs.declared.event.Event.TheVariants as event
use Rattle.io_scheduler.specs.Opened.{socket_kind}
use Rattle.io_scheduler.proofs.scheduler.Scheduler.make_socket.Given as goal

abbrev pub ghosts-note_made : goal.ghosts-note_made
ghosts-note_made g a = record { event = event.Changed None (control.Make (socket_kind a.listener) a.name) }
