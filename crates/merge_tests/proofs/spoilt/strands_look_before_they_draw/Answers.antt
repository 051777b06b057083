use Rattle.merge_tests.proofs.SpoiltLemmas.{looks_first}
use Rattle.merge_tests.proofs.spoilt.strands_look_before_they_draw.Goals as goal

pub returns : goal.returns
returns c = looks_first
