use Rattle.session_script.specs.Outcome.{model_of}
use Rattle.group_script.specs.Group.{group_of}
use Rattle.group_script.proofs.WellMadeLemmas.{is_script}
use Rattle.group_script.proofs.group.script_of.Goals as goal

pub make-requires : goal.make-requires
unfolding model_of
make-requires c =
    rw (c.in_ok-rounds.ensures.items, c.in_ok-acts.ensures)
    (is_script (group_of c.args.world c.args.members.now c.args.rule c.args.types c.args.workers) c.requires.group.fits
    c.requires.fed c.requires.group.size)

pub returns : goal.returns
unfolding model_of
returns c = rw (c.in_ok-rounds.ensures.items, c.in_ok-acts.ensures) at c.make.ensures
