use Rattle.io_rules.specs.declared.event.Event.TheVariants as event
use Rattle.io_scheduler.proofs.closing.abort_next.Given as goal

abbrev pub ghosts-note_done : goal.ghosts-note_done
ghosts-note_done g a = record { event = event.Done a.op.now.op a.gets.code a.gets.size }
