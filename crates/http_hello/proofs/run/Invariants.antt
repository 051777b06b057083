use Rattle.http_hello.proofs.run.Given as goal

abbrev pub ghosts-run_over-C-Named : goal.ghosts-run_over-C-Named
ghosts-run_over-C-Named g a = record { table = a.new.table; limits = a.new.limits }

abbrev pub ghosts-run_over-C-Ledger : goal.ghosts-run_over-C-Ledger
ghosts-run_over-C-Ledger g a = record { name = a.new.name; parts = a.new.parts }
