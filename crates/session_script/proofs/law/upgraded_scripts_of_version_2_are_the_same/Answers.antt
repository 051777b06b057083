use Rattle.session_script.proofs.UpgradingLemmas.{same_in_version_2}
use Rattle.session_script.proofs.law.upgraded_scripts_of_version_2_are_the_same.Goals as goal

pub returns : goal.returns
returns c = same_in_version_2
