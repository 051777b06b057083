use Rattle.parallel_group.specs.Members.{member_ops}
use Rattle.parallel_group.proofs.running.run_group.Given as goal

abbrev pub ghosts-run_script : goal.ghosts-run_script
ghosts-run_script g a = record { ops = member_ops a.script.now }
