use Rattle.io_rules.specs.declared.event.Event.TheVariants as event
use Rattle.io_scheduler.proofs.scheduler.Scheduler.begin.Given as goal

abbrev pub ghosts-note_begun : goal.ghosts-note_begun
ghosts-note_begun g a = record { event = event.Begun a.op a.spares }
