use Rattle.asio_types.specs.declared.code.Code.TheVariants as code
use Rattle.io_rules.specs.declared.event.Event.TheVariants as event
use Rattle.io_scheduler.proofs.expiring.expire_one.Given as goal

abbrev pub ghosts-note_expired : goal.ghosts-note_expired
ghosts-note_expired g a = record { event = event.Done a.wait.now.op code.Ok 0 }
