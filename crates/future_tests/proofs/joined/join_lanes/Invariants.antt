use Rattle.future_tests.proofs.joined.join_lanes.Given as goal

abbrev pub ghosts-run_joined : goal.ghosts-run_joined
ghosts-run_joined g a = record { lanes = a.context.now }
