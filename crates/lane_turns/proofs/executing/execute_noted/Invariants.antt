use Rattle.lane_turns.proofs.executing.execute_noted.Given as goal

abbrev pub ghosts-execute_from : goal.ghosts-execute_from
ghosts-execute_from g a = record { script = a.script.now; start = a.pen }
