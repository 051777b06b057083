use Rattle.foundation_tests.proofs.timers.waits_leave_by_expiry_and_then_by_acceptance.Given as goal

abbrev pub ghosts-play_all : goal.ghosts-play_all
ghosts-play_all g a = record { name = a.blank.name; parts = a.blank.parts }
