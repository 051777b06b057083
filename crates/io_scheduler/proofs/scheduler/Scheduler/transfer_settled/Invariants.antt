use Rattle.std.specs.Prelude.{None}
use Rattle.io_rules.specs.declared.event.Event.TheVariants as event
use Rattle.io_rules.specs.declared.request.Gone.TheVariants as gone
use Rattle.io_scheduler.specs.Posted.{posting}
use Rattle.io_scheduler.proofs.scheduler.Scheduler.transfer_settled.Given as goal

abbrev pub ghosts-note_posted : goal.ghosts-note_posted
ghosts-note_posted g a =
    record { event = event.Called a.op None (posting a.lane a.kind (g.H.Handler.marks a.handler.now)) gone.Nothing }

abbrev pub ghosts-note_of : goal.ghosts-note_of
ghosts-note_of g a = record { event = event.Done a.ready.now.number a.ready.now.code 0 }
