use Rattle.io_rules.specs.declared.event.Event.TheVariants as event
use Rattle.io_scheduler.proofs.scheduler.Scheduler.transfer_over.Given as goal

abbrev pub ghosts-note_of : goal.ghosts-note_of
ghosts-note_of g a = record { event = event.Done a.ready.now.number a.ready.now.code 0 }
