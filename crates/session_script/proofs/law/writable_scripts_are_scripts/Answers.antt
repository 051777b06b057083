use Rattle.session_script.proofs.WritingLemmas.{writable_is_script}
use Rattle.session_script.proofs.law.writable_scripts_are_scripts.Goals as goal

pub returns : goal.returns
returns c = writable_is_script
