use Rattle.session_script.proofs.ReadingLemmas.{is_script, is_first}
use Rattle.session_script.proofs.reader.read_parts.Goals as goal

pub returns-clause-script : goal.returns-clause-script
returns-clause-script c = is_script c.read_text.result c.args.bytes.now c.read_text.ensures

pub returns-clause-refused : goal.returns-clause-refused
returns-clause-refused c = is_first c.read_text.result c.args.bytes.now c.read_text.ensures
