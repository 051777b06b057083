use Rattle.asio_types.specs.declared.code.Code.TheVariants as code
use Rattle.io_rules.specs.declared.event.Event.TheVariants as event
use Rattle.io_scheduler.proofs.aborting.abort_first.Given as goal

abbrev pub ghosts-note_aborted : goal.ghosts-note_aborted
ghosts-note_aborted g a = record { event = event.Done a.wait.now.op code.Aborted 0 }
