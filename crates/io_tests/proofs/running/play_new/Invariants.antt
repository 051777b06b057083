use Rattle.io_tests.proofs.running.play_new.Given as goal

abbrev pub ghosts-play-C-Named : goal.ghosts-play-C-Named
ghosts-play-C-Named g a = record { table = a.new.table; limits = a.new.limits }

abbrev pub ghosts-play-C-Ledger : goal.ghosts-play-C-Ledger
ghosts-play-C-Ledger g a = record { name = a.new.name; parts = a.new.parts }
