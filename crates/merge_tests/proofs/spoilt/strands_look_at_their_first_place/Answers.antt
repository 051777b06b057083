use Rattle.merge_tests.proofs.SpoiltLemmas.{first_places}
use Rattle.merge_tests.proofs.spoilt.strands_look_at_their_first_place.Goals as goal

pub returns : goal.returns
returns c = first_places
