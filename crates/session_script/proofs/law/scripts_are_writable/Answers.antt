use Rattle.session_script.specs.Spelling.{spelling_of}
use Rattle.session_script.proofs.ReadingBackLemmas.{spells}
use Rattle.session_script.proofs.SpokenLemmas.{spelled_is_writable}
use Rattle.session_script.proofs.law.scripts_are_writable.Goals as goal

pub returns : goal.returns
returns c =
    let spelled = spells (spelling_of c.args.script.now) c.args.script.now c.reads_back.ensures in
    spelled_is_writable c.args.script.now spelled.limits _ spelled.words spelled.size
