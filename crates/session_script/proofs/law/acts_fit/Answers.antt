use Rattle.session_script.proofs.PlacingLemmas.{act_fits}
use Rattle.session_script.proofs.law.acts_fit.Goals as goal

pub returns : goal.returns
returns c n act is = act_fits c.args.script.now n c.scripts_are_well_formed.ensures act is
