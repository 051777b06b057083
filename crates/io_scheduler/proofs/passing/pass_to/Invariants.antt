use Rattle.io_rules.specs.declared.event.Event.TheVariants as event
use Rattle.io_scheduler.proofs.passing.pass_to.Given as goal

abbrev pub ghosts-note_passed : goal.ghosts-note_passed
ghosts-note_passed g a = record { event = event.Passed a.now }
