use Rattle.merge_tests.proofs.SpoiltLemmas.{unlooked}
use Rattle.merge_tests.proofs.spoilt.a_begin_without_its_look_is_no_log.Goals as goal

pub returns : goal.returns
returns c = unlooked
