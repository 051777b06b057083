use Rattle.lane_turns.proofs.reactor_baton.ReactorBaton.poll.Given as goal

abbrev pub ghosts-poll_reactor : goal.ghosts-poll_reactor
ghosts-poll_reactor g a = record { script = a.script.now; start = a.state.now.pen }
