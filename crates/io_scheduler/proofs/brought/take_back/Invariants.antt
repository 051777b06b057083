use Rattle.io_rules.specs.declared.event.Event.TheVariants as event
use Rattle.io_scheduler.proofs.brought.take_back.Given as goal

abbrev pub ghosts-note_back : goal.ghosts-note_back
ghosts-note_back g a = record { event = event.Back a.name a.side a.gave }
