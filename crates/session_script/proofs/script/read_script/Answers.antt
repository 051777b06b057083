use Rattle.session_script.specs.Outcome.{model_of}
use Rattle.session_script.proofs.ReadingBackLemmas.{written_is_read}
use Rattle.session_script.proofs.script.read_script.Goals as goal

pub make-requires : goal.make-requires
make-requires c = (written_is_read c.args.bytes.now (model_of c.in_ok-parts.parts) c.in_ok-parts.ensures.script).0
