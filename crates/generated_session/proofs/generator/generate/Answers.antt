use Rattle.session_script.specs.Outcome.{model_of}
use Rattle.generated_session.proofs.WellMadeLemmas.{generated_is_script}
use Rattle.generated_session.proofs.generator.generate.Goals as goal

pub make-requires : goal.make-requires
unfolding model_of
make-requires c =
    rw (c.of.ensures, c.new.ensures.items, c.in_ok-rounds.ensures.items, c.in_ok-acts.ensures)
    (generated_is_script c.args.start c.args.size c.requires.few)

pub returns : goal.returns
unfolding model_of
returns c = rw (c.of.ensures, c.new.ensures.items, c.in_ok-rounds.ensures.items, c.in_ok-acts.ensures) at c.make.ensures
