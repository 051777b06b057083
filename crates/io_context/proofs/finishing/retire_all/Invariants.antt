use Rattle.io_context.proofs.finishing.retire_all.Given as goal

abbrev pub decreases-states : goal.decreases-states
decreases-states g l = l.left
