use Rattle.proactor_core.proofs.waits.Waits.take_expired.Given as goal

abbrev pub ghosts-pop_due : goal.ghosts-pop_due
ghosts-pop_due a = record { name = a.blank.name; parts = a.blank.parts }
