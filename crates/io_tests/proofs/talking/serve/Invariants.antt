use Rattle.io_tests.proofs.talking.serve.Given as goal

abbrev pub ghosts-serve_as-C-Named : goal.ghosts-serve_as-C-Named
ghosts-serve_as-C-Named g a = record { table = a.new.table; limits = a.new.limits }

abbrev pub ghosts-serve_as-C-Ledger : goal.ghosts-serve_as-C-Ledger
ghosts-serve_as-C-Ledger g a = record { name = a.new.name; parts = a.new.parts }
