use Rattle.lane_clock.proofs.clock.LaneClock.draw.Given as goal

abbrev pub ghosts-draw_named : goal.ghosts-draw_named
ghosts-draw_named a = record { event = a.event }
