use Rattle.session_script.proofs.UpgradingLemmas.{upgraded_is_well_formed}
use Rattle.session_script.proofs.law.upgraded_scripts_are_well_formed.Goals as goal

pub returns : goal.returns
returns c = upgraded_is_well_formed
