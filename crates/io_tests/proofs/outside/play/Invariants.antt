use Rattle.io_tests.proofs.outside.play.Given as goal

abbrev pub ghosts-accept_two-C-Named : goal.ghosts-accept_two-C-Named
ghosts-accept_two-C-Named g a = record { table = a.new.table; limits = a.new.limits }

abbrev pub ghosts-accept_two-C-Ledger : goal.ghosts-accept_two-C-Ledger
ghosts-accept_two-C-Ledger g a = record { name = a.new.name; parts = a.new.parts }
