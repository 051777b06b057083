use Rattle.io_rules.specs.declared.event.Event.TheVariants as event
use Rattle.io_scheduler.proofs.remains.Remains.drop_next.Given as goal

abbrev pub ghosts-note_of : goal.ghosts-note_of
ghosts-note_of g a =
    record { event = event.Dropped a.ready.now.number (g.H.Handler.marks a.ready.now.handler).drop }
