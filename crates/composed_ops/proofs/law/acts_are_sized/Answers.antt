use Rattle.composed_ops.proofs.SizedLemmas.{act-sized}
use Rattle.composed_ops.proofs.law.acts_are_sized.Goals as goal

pub returns : goal.returns
returns c n act is = act-sized c.args.script.now act (c.acts_fit.ensures n act is)
