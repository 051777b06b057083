use Rattle.session_orders.proofs.OwnLemmas.{all_fit}
use Rattle.session_orders.proofs.own.sizes_fit.Goals as goal

pub returns : goal.returns
returns c = all_fit c.args.script.now c.acts_fit.ensures
