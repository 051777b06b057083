use Rattle.asio_types.specs.declared.code.Code.TheVariants as code
use Rattle.io_rules.specs.declared.event.Event.TheVariants as event
use Rattle.io_scheduler.proofs.scheduler.Scheduler.refuse_by.Given as goal

abbrev pub ghosts-note_of : goal.ghosts-note_of
ghosts-note_of g a = record { event = event.Done a.ready.now.number code.Bad 0 }
