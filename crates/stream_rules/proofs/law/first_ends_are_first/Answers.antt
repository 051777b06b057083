use Rattle.stream_rules.proofs.DelimiterLemmas.{first_end-is_first}
use Rattle.stream_rules.proofs.law.first_ends_are_first.Goals as goal

pub returns : goal.returns
returns c = first_end-is_first
