use Rattle.timer_queue.proofs.tests.each_comparison_of_a_pop_is_counted.Given as goal

abbrev pub ghosts-pops_compare : goal.ghosts-pops_compare
ghosts-pops_compare g a = record { name = a.blank.name; parts = a.blank.parts }
