use Rattle.session_script.proofs.ReadingBackLemmas.{upgrade_is_read}
use Rattle.session_script.proofs.law.upgraded_scripts_are_read_back.Goals as goal

pub returns : goal.returns
returns c = upgrade_is_read
