use Rattle.std.specs.Prelude.{Some}
use Rattle.io_rules.specs.declared.event.Event.TheVariants as event
use Rattle.io_scheduler.specs.Posted.{posting}
use Rattle.io_scheduler.proofs.calling.begin_call.Given as goal

abbrev pub ghosts-note_called : goal.ghosts-note_called
ghosts-note_called g a =
    record { event = event.Called a.op (Some a.by) (posting a.lane a.kind (g.H.Handler.marks a.handler.now)) a.given }
