use Rattle.session_script.proofs.ReadingBackLemmas.{spells, spelled_is_script}
use Rattle.session_script.proofs.reader.scripts_are_spelled.Goals as goal

pub returns : goal.returns
returns c bytes script = (spells bytes script, spelled_is_script bytes script)
