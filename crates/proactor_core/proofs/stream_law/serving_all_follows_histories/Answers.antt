use Rattle.proactor_core.proofs.StreamsFollowingLemmas.{streams-follow}
use Rattle.proactor_core.proofs.stream_law.serving_all_follows_histories.Goals as goal

pub returns : goal.returns
returns c = streams-follow
