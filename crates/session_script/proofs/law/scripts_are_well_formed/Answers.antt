use Rattle.session_script.specs.Spelling.{spelling_of}
use Rattle.session_script.proofs.ReadingBackLemmas.{spells}
use Rattle.session_script.proofs.law.scripts_are_well_formed.Goals as goal

pub returns : goal.returns
returns c = (spells (spelling_of c.args.script.now) c.args.script.now c.reads_back.ensures).limits
