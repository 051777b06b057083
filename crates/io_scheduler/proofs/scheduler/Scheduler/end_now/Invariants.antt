use Rattle.io_rules.specs.declared.event.Event.TheVariants as event
use Rattle.io_scheduler.proofs.scheduler.Scheduler.end_now.Given as goal

abbrev pub ghosts-note_ended : goal.ghosts-note_ended
ghosts-note_ended g a = record { event = event.Ended a.op a.mark }
