use Rattle.io_rules.specs.declared.event.Event.TheVariants as event
use Rattle.io_scheduler.proofs.trying.begin.Given as goal

abbrev pub ghosts-note_tried : goal.ghosts-note_tried
ghosts-note_tried g a = record { event = event.Tried a.name a.side a.reserved }
