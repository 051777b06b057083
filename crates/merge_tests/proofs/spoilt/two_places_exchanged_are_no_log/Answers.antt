use Rattle.merge_tests.proofs.SpoiltLemmas.{exchanged}
use Rattle.merge_tests.proofs.spoilt.two_places_exchanged_are_no_log.Goals as goal

pub returns : goal.returns
returns c = exchanged
