use Rattle.session_script.proofs.PlacingLemmas.{has_parent}
use Rattle.session_script.proofs.law.parents_come_first.Goals as goal

pub returns : goal.returns
returns c n = has_parent c.args.script.now n c.scripts_are_well_formed.ensures
