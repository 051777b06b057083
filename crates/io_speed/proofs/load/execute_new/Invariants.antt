use Rattle.io_speed.proofs.load.execute_new.Given as goal

abbrev pub ghosts-execute-C-Named : goal.ghosts-execute-C-Named
ghosts-execute-C-Named g a = record { table = a.new.table; limits = a.new.limits }

abbrev pub ghosts-execute-C-Ledger : goal.ghosts-execute-C-Ledger
ghosts-execute-C-Ledger g a = record { name = a.new.name; parts = a.new.parts }
