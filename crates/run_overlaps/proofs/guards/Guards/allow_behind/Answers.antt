use Rattle.std.proofs.Common.{◌∷◌}
use Rattle.run_overlaps.proofs.UnlockLemmas.{given_up_here}
use Rattle.run_overlaps.proofs.guards.Guards.allow_behind.Goals as goal

pub returns-in-Unlock : goal.returns-in-Unlock
returns-in-Unlock c = λ past watch not.
    given_up_here (c.args.line.now ∷ past) c.args.line.now.thread c.in-Unlock.lock c.args.line.now.does c.is_taken_here.result c.in-Unlock.is
    (c.is_taken_here.ensures (c.args.line.now ∷ past) watch) not
