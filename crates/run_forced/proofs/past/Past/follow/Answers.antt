use Rattle.std.proofs.Common.{◌+◌}
use Rattle.run_forced.proofs.past.Past.follow.Goals as goal

pub returns : goal.returns
returns c = λ run here followed before.
    let lines = c.args.place + 1 in
    c.in_ok-forget_execution.ensures run lines
    (c.in_ok-forget_operation.ensures run lines
    (c.in_ok-let_go-2.ensures run lines
    (c.in_ok-let_go.ensures run lines (c.in_ok-hold.ensures run lines (c.in_ok-gone.ensures run here followed before)))))
