use Rattle.io_rules.proofs.ExampleLemmas.{example_is_legal}
use Rattle.io_rules.proofs.law.a_server_is_legal.Goals as goal

pub returns : goal.returns
returns c = example_is_legal
