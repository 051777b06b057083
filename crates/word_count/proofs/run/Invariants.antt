use Rattle.word_count.proofs.run.Given as goal

abbrev pub ghosts-count_all-C-Named : goal.ghosts-count_all-C-Named
ghosts-count_all-C-Named g a = record { table = a.new.table; limits = a.new.limits }

abbrev pub ghosts-count_all-C-Ledger : goal.ghosts-count_all-C-Ledger
ghosts-count_all-C-Ledger g a = record { name = a.new.name; parts = a.new.parts }
