use Rattle.std.specs.Prelude.{None}
use Rattle.io_rules.specs.declared.event.Event.TheVariants as event
use Rattle.io_rules.specs.declared.request.Gone.TheVariants as gone
use Rattle.io_scheduler.specs.Accepted.{waiting_on}
use Rattle.io_scheduler.proofs.accepting.accept_wait.Given as goal

abbrev pub ghosts-note_waiting : goal.ghosts-note_waiting
ghosts-note_waiting g a =
    record { event = event.Called a.op None (waiting_on a.lane a.timer (g.H.Handler.marks a.handler.now)) gone.Nothing }
